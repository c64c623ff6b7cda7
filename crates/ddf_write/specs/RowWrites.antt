-- The rows that blocks touch which are written, and when their sums are sure (profile).
use Rattle.std.specs.Prelude.{◌≡◌, ◌⊎◌, ℕ, ◌+◌, ◌/◌, ◌<◌, List, [], Bool, Option, Some, None, if◌then◌else◌, slice_get, slice_index_or, length}
use Rattle.std.specs.List.{list_any, range_with_len, sum_by}
use Rattle.ddf_bay.specs.Sectors.{Image}
use Rattle.ddf_primary.specs.declared.cell.Cell.{Cell}
use Rattle.ddf_primary.specs.Cells.{rows_of}
use Rattle.ddf_array.specs.declared.part.Part.{Part}
use Rattle.ddf_array.specs.declared.site.Site.{Site}
use Rattle.ddf_array.specs.Levels.{keeps_parity}
use Rattle.ddf_array.specs.Redundant.{IsRedundant}
use Rattle.ddf_array.specs.Rows.{block_at, row_sum}
use Rattle.ddf_array.specs.Values.{bytes_at}
use Rattle.ddf_array.specs.Volume.{Volume}
use Rattle.ddf_read.specs.Reading.{IsOn}
use Rattle.ddf_cells.specs.Alike.{IsCell}
use Rattle.ddf_cells.specs.CellsOn.{cell_on}
use Rattle.ddf_cells.specs.Touching.{IsTouchedSlot}
use Rattle.ddf_write.specs.Writing.{IsLeftByWrite, IsParityAt, IsTouched}

-- each available cell of an array has a whole sector
abbrev pub HaveSectors : Volume → Image → Type 0
HaveSectors volume image = (slot lba : ℕ) → IsCell volume slot lba → length (image slot lba) ≡ 512

-- no read failed of a disk on which the array has an available cell, or the array was redundant before
abbrev pub IsSure : (failed : ℕ → Type 0) → Volume → Image → Type 0
IsSure failed volume entry = ((slot : ℕ) → IsOn volume slot → failed slot → ⊥) ⊎ (HaveSectors volume entry × IsRedundant volume entry)

-- the cells of these blocks hold their bytes
abbrev pub AllSet : Volume → (start : ℕ) → List (List ℕ) → Image → Type 0
AllSet volume start sectors image =
    (element position k : ℕ) (one : Site) → k < length sectors → cell_on volume element position (start + k) ≡ Some one
    → bytes_at image one ≡ slice_index_or sectors k []

-- an image between the entry of a write and its end: all cells are written, and at most parity differs otherwise
pub record IsFilled (volume : Volume) (start : ℕ) (sectors : List (List ℕ)) (entry image : Image) : Type 0 where
  pub left : IsLeftByWrite volume start sectors entry image
  pub cells : AllSet volume start sectors image

-- the available parity cell of a row is the row's sum
abbrev pub IsSummed : Volume → Image → (element sector : ℕ) → Part → Site → Type 0
IsSummed volume image element sector part one = bytes_at image one ≡ row_sum volume image element part sector

-- its slot is one of those that were written to
abbrev pub IsNoted : List Bool → (element sector : ℕ) → Part → Site → Type 0
IsNoted touched element sector part one = IsTouchedSlot touched one.slot

-- so is that of each row that the first blocks touch, so many
abbrev pub AllRows : Volume → (start count : ℕ) → ((element sector : ℕ) → Part → Site → Type 0) → Type 0
AllRows volume start count Q =
    (element sector : ℕ) (part : Part) (one : Site) → IsParityAt volume start count element sector part one → Q element sector part one

-- the same of one element
abbrev pub RowsIn : Volume → (start count element : ℕ) → ((element sector : ℕ) → Part → Site → Type 0) → Type 0
RowsIn volume start count element Q =
    (sector : ℕ) (part : Part) (one : Site) → IsParityAt volume start count element sector part one → Q element sector part one

-- and of the first elements, so many
abbrev pub RowsOf : Volume → (start count elements : ℕ) → ((element sector : ℕ) → Part → Site → Type 0) → Type 0
RowsOf volume start count elements Q =
    (element sector : ℕ) (part : Part) (one : Site) → element < elements → IsParityAt volume start count element sector part one → Q element sector part one

-- where the parity cell of a touched row was the row's sum it still is
abbrev pub KeepsSums : Volume → (start count : ℕ) → (old new : Image) → Type 0
KeepsSums volume start count old new =
    (element sector : ℕ) (part : Part) (one : Site) → IsParityAt volume start count element sector part one
    → IsSummed volume old element sector part one → IsSummed volume new element sector part one

-- each of so many neighbouring rows is touched
abbrev pub AreTouched : Volume → (start count element sector rows : ℕ) → Type 0
AreTouched volume start count element sector rows = (j : ℕ) → j < rows → IsTouched volume start count element (sector + j)

-- an element of the array keeps parity
abbrev pub keeps_parity_in : Part → Bool
keeps_parity_in part = keeps_parity part.shape.layout

abbrev pub keeps_parity_anywhere : Volume → Bool
keeps_parity_anywhere volume = list_any keeps_parity_in volume.parts

-- the only cell of an element that holds a block
pub record IsOnlyCell (volume : Volume) (element : ℕ) (part : Part) (block : ℕ) (cell : Cell) : Type 0 where
  pub holds_it : block_at volume element cell.member cell.sector ≡ Some block
  pub only : (position sector : ℕ) → block_at volume element position sector ≡ Some block → sector ≡ cell.sector
  pub row_is : cell.row ≡ cell.sector / part.shape.strip
  pub in_rows : cell.row < rows_of part.shape
  pub below : cell.sector < part.shape.blocks

-- one parity cell for each of so many blocks, where an element keeps parity
abbrev pub parity_cells_of : (count : ℕ) → Option Part → ℕ
parity_cells_of count None = 0
parity_cells_of count (Some part) = if keeps_parity part.shape.layout then count else 0

abbrev pub parity_cells : List Part → (count element : ℕ) → ℕ
parity_cells parts count element = parity_cells_of count (slice_get parts element)

-- those of all elements
abbrev pub row_cells : Volume → (count : ℕ) → ℕ
row_cells volume count = sum_by (parity_cells volume.parts count) (range_with_len 0 (length volume.parts))
