-- What is known, before blocks are written piece by piece, of what lies beside each piece (profile).
use Rattle.std.specs.Prelude.{◌≡◌, ◌≢◌, ◌⊎◌, ℕ, ◌+◌, ◌-◌, ◌*◌, ◌/◌, ◌%◌, ◌^◌, ◌<◌, ◌≤◌, ◌==◌, nat_lt, nat_le, min, max, true, false, fold, Some, None, slice_get, if◌then◌else◌}
use Rattle.ddf_bay.specs.State.{BayState}
use Rattle.ddf_primary.specs.Cells.{unit_of}
use Rattle.ddf_array.specs.declared.part.Part.{Part}
use Rattle.ddf_array.specs.Levels.{keeps_parity}
use Rattle.ddf_array.specs.Volume.{Volume}
use Rattle.ddf_read.specs.declared.fault.VolumeFault.TheVariants.{Range, Lost, Unsure, Degraded, Disk}
use Rattle.ddf_read.specs.Reading.{Failed}
use Rattle.ddf_write.specs.declared.beside.Beside.{Beside}
use Rattle.ddf_write.specs.declared.beside.LookFault.{LookFault}
use Rattle.ddf_write.specs.declared.beside.LookFault.TheVariants as faults
use Rattle.ddf_write.specs.Beside.{NoneLeftBeside}
use Rattle.ddf_write.specs.Keeping.{AllAreKept, Keeping, KeepsNone}
use Rattle.ddf_write.specs.RowWrites.{keeps_parity_anywhere}
use Rattle.ddf_write.specs.WriteRefused.{write_refusal}
use Rattle.ddf_write.specs.Writing.{IsTouched}

-- ---- pieces

-- The blocks of the next piece of a range, of which so many blocks come before it. Pieces have so many blocks each, but that the first one is shorter by some,
-- and the last one may be.
abbrev pub piece_of : (each ahead at left : ℕ) → ℕ
piece_of each ahead at left = min (each - (ahead + at) % each) left

-- the blocks of a piece of an array that keeps no parity, and of one that does at most, where its stripes aren't longer
abbrev pub most_blocks : ℕ
most_blocks = 2048

-- so many blocks are whole stripes of both, where there are no more of them than numbers have
abbrev pub in_stripes : (blocks unit : ℕ) → ℕ
in_stripes blocks unit =
    if unit == 0 then blocks
    else (if blocks % unit == 0 then blocks
    else (if unit % blocks == 0 then unit
    else (if nat_lt (blocks * unit) (2 ^ 64) then blocks * unit
    else blocks)))

abbrev pub in_stripes_of : ℕ → Part → ℕ
in_stripes_of blocks part = if keeps_parity part.shape.layout then in_stripes blocks (unit_of part.shape) else blocks

-- the blocks of a whole stripe of every element that keeps parity
abbrev pub stripe_blocks : Volume → ℕ
stripe_blocks volume = fold in_stripes_of 1 volume.parts

-- the blocks of a piece: so many whole stripes as there is room for, and at least one
abbrev pub blocks_of_stripes : (stripe : ℕ) → ℕ
blocks_of_stripes stripe = if nat_le stripe most_blocks then max 1 (most_blocks / stripe * stripe) else stripe

abbrev pub piece_blocks : Volume → ℕ
piece_blocks volume = blocks_of_stripes (stripe_blocks volume)

-- ---- what is kept

-- beside each piece of a range, from one on, every cell is kept
pub data ArePiecesKept (volume : Volume) (start count each ahead : ℕ) (kept : Keeping) : ℕ → Type 0 where
  no_more : (at : ℕ) → count ≤ at → ArePiecesKept volume start count each ahead kept at
  one_more : (at : ℕ) → at < count → AllAreKept volume (start + at) (piece_of each ahead at (count - at)) kept
      → ArePiecesKept volume start count each ahead kept (at + piece_of each ahead at (count - at)) → ArePiecesKept volume start count each ahead kept at

-- the number of the piece in which a block of a range lies, of which so many blocks come before it
abbrev pub piece_number : (each ahead at : ℕ) → ℕ
piece_number each ahead at = (ahead + at) / each

-- A row of an element that keeps parity is split by pieces of so many blocks: it has two blocks of the range, and these lie in two pieces.
pub record IsSplit (volume : Volume) (start count each ahead : ℕ) : Type 0 where
  pub element : ℕ
  pub part : Part
  pub is_part : slice_get volume.parts element ≡ Some part
  pub keeps : keeps_parity part.shape.layout ≡ true
  pub sector : ℕ
  pub one : IsTouched volume start count element sector
  pub other : IsTouched volume start count element sector
  pub differ : piece_number each ahead one.k ≢ piece_number each ahead other.k

-- Pieces end where stripes end: all of them, from the array's first block on, are as long as they are to be. Or the range is one piece, since these would split
-- a row.
abbrev pub EndWithStripes : Volume → (start count each ahead : ℕ) → Type 0
EndWithStripes volume start count each ahead =
    ((each ≡ piece_blocks volume) × (ahead ≡ start % each))
    ⊎ (IsSplit volume start count (piece_blocks volume) (start % piece_blocks volume) × (each ≡ max 1 count) × (ahead ≡ 0))

-- What is known of what lies beside a range: how its pieces go, and beside each of them every cell. What is kept holds no block of the range, so it stays what it is
-- while they are written; and a row that one piece touches has no block of another one.
pub record LiesBeside (volume : Volume) (start count : ℕ) (beside : Beside) : Type 0 where
  pub some : 0 < beside.each
  pub some_first : beside.ahead < beside.each
  pub plain : keeps_parity_anywhere volume ≡ false → (beside.each ≡ most_blocks) × (beside.ahead ≡ 0)
  pub stripes : keeps_parity_anywhere volume ≡ true → EndWithStripes volume start count beside.each beside.ahead
  pub all_kept : ArePiecesKept volume start count beside.each beside.ahead beside.kept 0
  pub keeps_none : KeepsNone volume start count beside.kept

-- the cause of an answer other than Ok: nothing was read, for a cause that the range has; or no source is left at a slot
abbrev pub IsLookFault : {D : Type 0} (old new : BayState D) → Volume → (start count : ℕ) → LookFault → Type 0
IsLookFault old new volume start count (faults.Volume (Range most)) = (write_refusal volume start count ≡ Some (Range most)) × (new.calls ≡ old.calls)
IsLookFault old new volume start count (faults.Volume Lost) = (write_refusal volume start count ≡ Some Lost) × (new.calls ≡ old.calls)
IsLookFault old new volume start count (faults.Volume Unsure) = ⊥
IsLookFault old new volume start count (faults.Volume Degraded) = (write_refusal volume start count ≡ Some Degraded) × (new.calls ≡ old.calls)
IsLookFault old new volume start count (faults.Volume (Disk slot)) = (write_refusal volume start count ≡ None) × NoneLeftBeside (Failed old new) volume start count slot
IsLookFault old new volume start count faults.Memory = Unit {0}
