-- What a look at the cells beside blocks keeps, cell by cell and row by row (profile).
use Rattle.std.specs.Prelude.{◌≡◌, ◌≢◌, ◌⊎◌, ℕ, ◌+◌, ◌/◌, ◌<◌, ◌≤◌, true, List, [], Some, slice_get, slice_index_or, length}
use Rattle.ddf_bay.specs.State.{BayState}
use Rattle.ddf_primary.specs.Cells.{parity_member}
use Rattle.ddf_array.specs.declared.part.Part.{Part}
use Rattle.ddf_array.specs.declared.site.Site.{Site}
use Rattle.ddf_array.specs.Levels.{keeps_parity}
use Rattle.ddf_array.specs.Rows.{block_at}
use Rattle.ddf_array.specs.Volume.{Volume}
use Rattle.ddf_read.specs.Reading.{Failed, NoneLeft, OnlyReads}
use Rattle.ddf_cells.specs.CellSources.{cell_sources}
use Rattle.ddf_cells.specs.GivenCells.{IsCellGiven}
use Rattle.ddf_read.specs.declared.fault.VolumeFault.TheVariants as volumes
use Rattle.ddf_write.specs.declared.beside.LookFault.{LookFault}
use Rattle.ddf_write.specs.declared.beside.LookFault.TheVariants as faults
use Rattle.ddf_write.specs.declared.looking.Missed.{Missed}
use Rattle.ddf_write.specs.declared.looking.Missed.TheVariants.{Disk, Memory, Split}
use Rattle.ddf_write.specs.declared.looking.Piece.{Piece}
use Rattle.ddf_write.specs.Beside.{HoldsNone}
use Rattle.ddf_write.specs.Keeping.{Keeping, kept_of}
use Rattle.ddf_write.specs.WriteRefused.{IsOther}
use Rattle.ddf_write.specs.Writing.{IsTouched}

-- what may be kept of a cell: it holds no block of the range, and was read as this
pub record MayKeep {D : Type 0} (tells : Type 0) (old new : BayState D) (volume : Volume) (start count element position sector : ℕ) (bytes : List ℕ) : Type 0 where
  pub holds_none : HoldsNone volume start count element position sector
  pub given : tells → (part : Part) → slice_get volume.parts element ≡ Some part → IsCellGiven (Failed old new) volume old.held element part sector position bytes

-- what is kept is kept still, maybe with other bytes
abbrev pub Grows : (before after : Keeping) → Type 0
Grows before after = (element position sector : ℕ) (bytes : List ℕ) → kept_of before element position sector ≡ Some bytes → (others : List ℕ) × (kept_of after element position sector ≡ Some others)

-- only reads were made, and what is kept now was kept before, or may be kept
pub record Gathers {D : Type 0} (tells : Type 0) (old new : BayState D) (volume : Volume) (start count : ℕ) (before after : Keeping) : Type 0 where
  pub reads : OnlyReads old new
  pub grows : Grows before after
  pub added : (element position sector : ℕ) (bytes : List ℕ) → kept_of after element position sector ≡ Some bytes
      → (kept_of before element position sector ≡ Some bytes) ⊎ MayKeep tells old new volume start count element position sector bytes

-- one of so many neighbouring cells is kept with its sector
pub record IsOfRun (element position sector : ℕ) (cells : List (List ℕ)) (count : ℕ) (e p s : ℕ) (bytes : List ℕ) : Type 0 where
  pub k : ℕ
  pub below : k < count
  pub element_is : e ≡ element
  pub position_is : p ≡ position
  pub sector_is : s ≡ sector + k
  pub bytes_are : bytes ≡ slice_index_or cells k []

-- of so many neighbouring cells these sectors are kept, and of the others what was kept before
pub record KeepsRun (before after : Keeping) (element position sector : ℕ) (cells : List (List ℕ)) (count : ℕ) : Type 0 where
  pub grows : Grows before after
  pub these : (k : ℕ) → k < count → (bytes : List ℕ) × (kept_of after element position (sector + k) ≡ Some bytes)
  pub added : (e p s : ℕ) (bytes : List ℕ) → kept_of after e p s ≡ Some bytes → (kept_of before e p s ≡ Some bytes) ⊎ IsOfRun element position sector cells count e p s bytes

-- a cell holds one of these blocks, or is kept
abbrev pub IsKnownAt : Volume → (start count : ℕ) → Keeping → (element position sector : ℕ) → Type 0
IsKnownAt volume start count kept element position sector =
    ((k : ℕ) × (k < count) × (block_at volume element position sector ≡ Some (start + k))) ⊎ ((bytes : List ℕ) × (kept_of kept element position sector ≡ Some bytes))

-- so are so many neighbouring cells
abbrev pub AreKnownAlong : Volume → (start count : ℕ) → Keeping → (element position sector many : ℕ) → Type 0
AreKnownAlong volume start count kept element position sector many = (k : ℕ) → k < many → IsKnownAt volume start count kept element position (sector + k)

-- so is each data cell of a row
abbrev pub RowIsKnown : Volume → (start count : ℕ) → Keeping → (element sector : ℕ) → Part → Site → Type 0
RowIsKnown volume start count kept element sector part one =
    (position : ℕ) → position < length part.places → parity_member part.shape (sector / part.shape.strip) ≢ Some position → IsKnownAt volume start count kept element position sector

-- no source is left at a slot for one of so many neighbouring cells, and it holds none of these blocks
pub record NoneLeftOfOthers (failed : ℕ → Type 0) (volume : Volume) (start count element : ℕ) (part : Part) (position sector many slot : ℕ) : Type 0 where
  pub cell : ℕ
  pub is_in : cell < many
  pub holds_none : HoldsNone volume start count element position (sector + cell)
  pub none_left : NoneLeft failed (cell_sources volume element part (sector + cell) position) slot

-- a piece is one of its range
pub record IsInRange (piece : Piece) : Type 0 where
  pub from : piece.start ≤ piece.first
  pub to : piece.first + piece.blocks ≤ piece.start + piece.count

-- one of so many neighbouring cells holds a block of the range that is none of the piece
pub record IsOfAnother (volume : Volume) (piece : Piece) (element position sector many : ℕ) : Type 0 where
  pub cell : ℕ
  pub is_in : cell < many
  pub k : ℕ
  pub below : k < piece.count
  pub holds_it : block_at volume element position (sector + cell) ≡ Some (piece.start + k)
  pub other : IsOther piece.first piece.blocks (piece.start + k)

-- a row of an element that keeps parity has a block of the piece, and one of the range that is none of the piece
pub record IsSplitRow (volume : Volume) (piece : Piece) : Type 0 where
  pub element : ℕ
  pub part : Part
  pub is_part : slice_get volume.parts element ≡ Some part
  pub keeps : keeps_parity part.shape.layout ≡ true
  pub sector : ℕ
  pub touched : IsTouched volume piece.first piece.blocks element sector
  pub row : IsTouched volume piece.start piece.count element sector
  pub other : IsOther piece.first piece.blocks (piece.start + row.k)

-- why cells aren't kept
abbrev pub IsMissed : (left : ℕ → Type 0) → (split : Type 0) → Missed → Type 0
IsMissed left split (Disk slot) = left slot
IsMissed left split Memory = Unit {0}
IsMissed left split Split = split

-- the same of a range that is one piece
abbrev pub IsUnkept : (left : ℕ → Type 0) → LookFault → Type 0
IsUnkept left (faults.Volume (volumes.Disk slot)) = left slot
IsUnkept left (faults.Volume other) = ⊥
IsUnkept left faults.Memory = Unit {0}
