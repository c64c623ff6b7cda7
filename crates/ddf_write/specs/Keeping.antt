-- The values of cells that are read before blocks are written, and kept (profile).
use Rattle.std.specs.Prelude.{◌≡◌, ℕ, Bool, false, ◌&&◌, ◌==◌, List, Option, Some}
use Rattle.std.specs.Map.{lookup}
use Rattle.ddf_bay.specs.Sectors.{Image}
use Rattle.ddf_array.specs.declared.part.Part.{Part}
use Rattle.ddf_array.specs.Rows.{cell_value}
use Rattle.ddf_array.specs.Volume.{Volume}
use Rattle.ddf_cells.specs.GivenCells.{IsCellGiven}
use Rattle.ddf_write.specs.declared.kept.DataCell.{DataCell}
use Rattle.ddf_write.specs.Beside.{HoldsNone, IsBeside, IsDataCell}

-- cells with their bytes
abbrev pub Keeping : Type 0
Keeping = List (DataCell × List ℕ)

abbrev pub is_cell : (element position sector : ℕ) → DataCell → Bool
is_cell element position sector cell = element == cell.element && (position == cell.position && sector == cell.sector)

-- the bytes that are kept of a cell
abbrev pub kept_of : Keeping → (element position sector : ℕ) → Option (List ℕ)
kept_of kept element position sector = lookup (is_cell element position sector) kept

-- of a cell these bytes are kept, and of the others what was kept before
pub record KeepsOne (old new : Keeping) (element position sector : ℕ) (bytes : List ℕ) : Type 0 where
  pub this : kept_of new element position sector ≡ Some bytes
  pub others : (e p s : ℕ) → is_cell element position sector (record { element = e; position = p; sector = s }) ≡ false → kept_of new e p s ≡ kept_of old e p s

-- every cell beside these blocks is kept
abbrev pub AllAreKept : Volume → (start count : ℕ) → Keeping → Type 0
AllAreKept volume start count kept =
    (element : ℕ) (part : Part) (position sector : ℕ) → IsBeside volume start count element part position sector → (bytes : List ℕ) × (kept_of kept element position sector ≡ Some bytes)

-- no cell is kept that holds one of these blocks
abbrev pub KeepsNone : Volume → (start count : ℕ) → Keeping → Type 0
KeepsNone volume start count kept =
    (element position sector : ℕ) (bytes : List ℕ) → kept_of kept element position sector ≡ Some bytes → HoldsNone volume start count element position sector

-- what is kept of data cells are their values
abbrev pub AreTheirValues : Volume → Image → Keeping → Type 0
AreTheirValues volume image kept =
    (element : ℕ) (part : Part) (position sector : ℕ) (bytes : List ℕ) → IsDataCell volume element part position sector → kept_of kept element position sector ≡ Some bytes
    → bytes ≡ cell_value volume image element part sector position

-- In any case each has the bytes of one of its sources, and each source before that one has a slot of which a read failed.
abbrev pub AreGivenThem : (failed : ℕ → Type 0) → Volume → Image → Keeping → Type 0
AreGivenThem failed volume image kept =
    (element : ℕ) (part : Part) (position sector : ℕ) (bytes : List ℕ) → IsDataCell volume element part position sector → kept_of kept element position sector ≡ Some bytes
    → IsCellGiven failed volume image element part sector position bytes
