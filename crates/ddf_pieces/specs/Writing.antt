-- What came of blocks of an array that are written piece by piece (profile).
use Rattle.std.specs.Prelude.{◌≡◌, ◌⊎◌, ℕ, ◌+◌, ◌-◌, ◌*◌, ◌<◌, ◌≤◌, Bool, true, false, List, [], length, Some, None, Result, Ok, Err}
use Rattle.ddf_bytes.specs.Counts.{Rose}
use Rattle.ddf_bytes.specs.Streams.{GivesFront, SourceState}
use Rattle.ddf_bay.specs.Moments.{IsSettled, StopsLeave}
use Rattle.ddf_bay.specs.ReadsOnly.{ReadsOnly}
use Rattle.ddf_bay.specs.State.{BayState}
use Rattle.ddf_array.specs.Volume.{Volume}
use Rattle.ddf_read.specs.declared.fault.VolumeFault.{VolumeFault}
use Rattle.ddf_read.specs.declared.fault.VolumeFault.TheVariants.{Range, Lost, Unsure, Degraded, Disk}
use Rattle.ddf_cells.specs.CellsOn.{copy_cells, write_stretches}
use Rattle.ddf_cells.specs.Touching.{IsTouchedSlot}
use Rattle.ddf_write.specs.Keeping.{AreTheirValues, Keeping}
use Rattle.ddf_write.specs.Looking.{piece_of}
use Rattle.ddf_write.specs.RowWrites.{keeps_parity_anywhere, row_cells}
use Rattle.ddf_write.specs.WriteRefused.{IsStopped, write_refusal}
use Rattle.ddf_write.specs.Writing.{AddsWrites, HasWritten, IsAmongWrites, IsLeftByWrite, IsWritten, NotesWrites}
use Rattle.ddf_pieces.specs.declared.fault.PieceFault.{PieceFault}
use Rattle.ddf_pieces.specs.declared.fault.PieceFault.TheVariants as faults
use Rattle.ddf_pieces.specs.Coming.{HaveCome}
use Rattle.ddf_pieces.specs.Pieces.{EndWithPiece, GrewByPieces}

-- ---- what writes of blocks leave, one or several

module _ {D : Type 0} (tells : Type 0) (old new : BayState D) (volume : Volume) (start : ℕ) (sectors : List (List ℕ)) where
  -- At every answer: at each moment since entry, and at the end, each sector by itself is as it might be before, or has bytes that a write of these blocks
  -- gives it. No more sectors were asked for or written than the blocks have cells, and one parity cell for each block in each element that keeps parity.
  pub record LeaveWrites : Type 0 where
    pub any_moment : StopsLeave old new (IsAmongWrites volume start sectors old.may_hold)
    pub held : tells → IsLeftByWrite volume start sectors old.held new.held
    pub left : AddsWrites volume start sectors old.may_hold new.may_hold
    pub asked : new.sectors_asked ≤ old.sectors_asked + (copy_cells volume start (length sectors) + row_cells volume (length sectors))
    pub written : new.sectors_written ≤ old.sectors_written + (copy_cells volume start (length sectors) + row_cells volume (length sectors))

  -- The blocks are written, and not synced yet: each available cell of a block has its bytes, and each parity cell of a row that they touch is the sum of the row where
  -- what was kept were the values of the cells beside them. The slots that got bytes are noted beside those that were, and no others. No write failed.
  pub record ArePut (kept : Keeping) (noted_before noted : List Bool) : Type 0 where
    pub written : tells → HasWritten volume start sectors (AreTheirValues volume old.held kept) new.held
    pub are_noted : tells → (slot : ℕ) → IsWritten volume start (length sectors) slot → IsTouchedSlot noted slot
    pub notes : NotesWrites volume start (length sectors) noted_before noted
    pub unfailed : new.failed_writes ≡ old.failed_writes

  -- The blocks are written and synced: each available cell of a block has its bytes, and each parity cell of a row that they touch is the sum of the row where
  -- what was kept were the values of the cells beside them. A slot on which nothing was pending has nothing pending. No write or sync failed.
  pub record AreWritten (kept : Keeping) : Type 0 where
    pub written : tells → HasWritten volume start sectors (AreTheirValues volume old.held kept) new.held
    pub durable : tells → (slot : ℕ) → IsWritten volume start (length sectors) slot → IsSettled new.may_hold new.held slot
    pub settled : tells → (slot : ℕ) → IsSettled old.may_hold old.held slot → IsSettled new.may_hold new.held slot
    pub unfailed : new.failed_writes ≡ old.failed_writes

-- ---- one piece

-- its write ended at a slot
abbrev pub IsPieceStopped : {D : Type 0} (old new : BayState D) → Volume → (start count : ℕ) → PieceFault → Type 0
IsPieceStopped old new volume start count (faults.Volume (Disk slot)) = IsStopped old new volume start count slot
IsPieceStopped old new volume start count (faults.Volume other) = ⊥
IsPieceStopped old new volume start count faults.Source = ⊥
IsPieceStopped old new volume start count (faults.Sink fault) = ⊥

-- ---- pieces

-- Blocks were given to be written, and so many syncs were made at most. What is done of those that are written when the calls end, is said of their sectors.
module _ {D : Type 0} (tells : Type 0) (old new : BayState D) (volume : Volume) (start count each ahead syncs : ℕ) (Are : (sectors : List (List ℕ)) → Type 0) (source_tells : Type 0) (before after : SourceState) (first : List ℕ) where
  -- The sectors are the blocks that were given to be written: those of the first piece and of later ones that came. So many bytes that the source had weren't among them.
  pub record AreGivenBlocks (sectors : List (List ℕ)) (left : List ℕ) : Type 0 where
    pub accepted : write_refusal volume start count ≡ None
    pub whole : EndWithPiece each ahead count (length sectors)
    pub come : HaveCome source_tells before first sectors left
    pub leave : LeaveWrites tells old new volume start sectors
    pub calls : keeps_parity_anywhere volume ≡ false → GrewByPieces (write_stretches volume) each start count (old.calls + syncs) new.calls

  -- So much is done of so many blocks. They are all of the range, and no byte behind them was taken from the source; or the source ended before the next piece
  -- was full, and is empty.
  pub record EndsAt (blocks : ℕ) : Type 0 where
    pub sectors : List (List ℕ)
    pub many : length sectors ≡ blocks
    pub left : List ℕ
    pub are : AreGivenBlocks sectors left
    pub is_written : Are sectors
    pub same_faults : after.faults ≡ before.faults
    pub ends :
        ((blocks ≡ count) × (source_tells → after.left ≡ left))
        ⊎ ((0 < blocks) × (blocks < count) × (source_tells → (length left < 512 * piece_of each ahead blocks (count - blocks)) × (after.left ≡ [])))

  -- A read of the source failed behind these blocks, of which so much is done.
  pub record EndsBroken : Type 0 where
    pub sectors : List (List ℕ)
    pub more : length sectors < count
    pub left : List ℕ
    pub are : AreGivenBlocks sectors left
    pub is_written : Are sectors
    pub rose : Rose before.faults after.faults
    pub came : source_tells → GivesFront (record before { left = left }) after

  -- The write of these blocks ended at a slot: a write or sync of it failed. Nothing behind them was asked for of the source, or a piece that didn't come.
  pub record EndsStopped (slot : ℕ) : Type 0 where
    pub sectors : List (List ℕ)
    pub left : List ℕ
    pub are : AreGivenBlocks sectors left
    pub stopped : IsStopped old new volume start (length sectors) slot
    pub rest :
        ((after.faults ≡ before.faults) × (source_tells → after.left ≡ left))
        ⊎ ((length sectors < count) × (source_tells → GivesFront (record before { left = left }) after))

  -- nothing was read or written, for a cause that the whole range has
  pub record EndsUnwritten (fault : VolumeFault) : Type 0 where
    pub refused : write_refusal volume start count ≡ Some fault
    pub reads_only : ReadsOnly old new
    pub none_called : new.calls ≡ old.calls
    pub same : after ≡ before

  abbrev pub HaveEnded : Result ℕ PieceFault → Type 0
  HaveEnded (Ok blocks) = EndsAt blocks
  HaveEnded (Err (faults.Volume (Range most))) = EndsUnwritten (Range most)
  HaveEnded (Err (faults.Volume Lost)) = EndsUnwritten Lost
  HaveEnded (Err (faults.Volume Unsure)) = ⊥
  HaveEnded (Err (faults.Volume Degraded)) = EndsUnwritten Degraded
  HaveEnded (Err (faults.Volume (Disk slot))) = EndsStopped slot
  HaveEnded (Err faults.Source) = EndsBroken
  HaveEnded (Err (faults.Sink fault)) = ⊥

-- an answer that comes of the disks, before the blocks are all written
abbrev pub is_stopped : Result ℕ PieceFault → Bool
is_stopped (Ok blocks) = false
is_stopped (Err (faults.Volume fault)) = true
is_stopped (Err faults.Source) = false
is_stopped (Err (faults.Sink fault)) = false

module _ {D : Type 0} (tells : Type 0) (old new : BayState D) (volume : Volume) (start count each ahead : ℕ) (kept : Keeping) where
  -- blocks are written piece by piece, and none is synced
  abbrev pub ArePiecesPut : (noted_before noted : List Bool) → (source_tells : Type 0) → (before after : SourceState) → (first : List ℕ) → Result ℕ PieceFault → Type 0
  ArePiecesPut noted_before noted = HaveEnded tells old new volume start count each ahead 0 (λ sectors. ArePut tells old new volume start sectors kept noted_before noted)

  -- So many blocks are written and synced, with no more than one sync of each slot.
  abbrev pub IsWrittenTo : (source_tells : Type 0) → (before after : SourceState) → (first : List ℕ) → (blocks : ℕ) → Type 0
  IsWrittenTo = EndsAt tells old new volume start count each ahead (length old.sizes) (λ sectors. AreWritten tells old new volume start sectors kept)

  -- what came of blocks that are written and synced
  abbrev pub ArePiecesWritten : (source_tells : Type 0) → (before after : SourceState) → (first : List ℕ) → Result ℕ PieceFault → Type 0
  ArePiecesWritten = HaveEnded tells old new volume start count each ahead (length old.sizes) (λ sectors. AreWritten tells old new volume start sectors kept)
