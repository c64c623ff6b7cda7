-- The bytes of blocks that come piece by piece, the first piece first and the others from a source (profile).
use Rattle.std.specs.Prelude.{◌≡◌, ℕ, ◌<◌, Bool, true, false, List, [], ◌++◌, Some, Result, Ok, Err, length, slice_get}
use Rattle.ddf_bytes.specs.Counts.{Rose}
use Rattle.ddf_bytes.specs.Streams.{GivesFront, SourceState}
use Rattle.ddf_pieces.specs.declared.fault.PieceFault.{PieceFault}
use Rattle.ddf_pieces.specs.declared.fault.PieceFault.TheVariants as faults
use Rattle.ddf_pieces.specs.Pieces.{bytes_of}

-- each of these is the bytes of a sector
abbrev pub AreSectorsOf512 : List (List ℕ) → Type 0
AreSectorsOf512 sectors = (k : ℕ) (sector : List ℕ) → slice_get sectors k ≡ Some sector → length sector ≡ 512

-- The bytes of these sectors are those of a first piece, which was read before, and what came from a source behind it, in order. So many bytes are
-- left of what the source had.
pub record HaveCome (tells : Type 0) (old : SourceState) (first : List ℕ) (sectors : List (List ℕ)) (left : List ℕ) : Type 0 where
  pub whole : AreSectorsOf512 sectors
  pub came : List ℕ
  pub are : bytes_of sectors ≡ first ++ came
  pub from : tells → old.left ≡ came ++ left

-- what came of a piece that is read from a source: it is full; the source ended before, and is empty now; or a read of it failed
abbrev pub IsFilled : (tells : Type 0) → (old new : SourceState) → (piece : List ℕ) → Result Bool PieceFault → Type 0
IsFilled tells old new piece (Ok true) = (tells → old.left ≡ piece ++ new.left) × (new.faults ≡ old.faults)
IsFilled tells old new piece (Ok false) = (tells → (length old.left < length piece) × (new.left ≡ [])) × (new.faults ≡ old.faults)
IsFilled tells old new piece (Err faults.Source) = (tells → GivesFront old new) × Rose old.faults new.faults
IsFilled tells old new piece (Err (faults.Volume fault)) = ⊥
IsFilled tells old new piece (Err (faults.Sink fault)) = ⊥
