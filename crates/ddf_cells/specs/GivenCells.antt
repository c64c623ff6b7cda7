-- What reads of cells and of the sums of rows give, where reads of disks may fail (profile).
use Rattle.std.specs.Prelude.{◌≡◌, ℕ, ◌+◌, ◌<◌, true, false, List, [], map, length, Some, None, slice_get, slice_index_or}
use Rattle.std.specs.Simd.Lanes.{fold_l}
use Rattle.ddf_bay.specs.Sectors.{Image}
use Rattle.ddf_parity.specs.Xor.{xor, xor_all}
use Rattle.ddf_array.specs.declared.part.Part.{Part}
use Rattle.ddf_array.specs.Volume.{Volume}
use Rattle.ddf_array.specs.Sources.{sources}
use Rattle.ddf_array.specs.Rows.{block_at, data_positions}
use Rattle.ddf_read.specs.Reading.{IsGivenBy}
use Rattle.ddf_cells.specs.CellSources.{is_parity}
use Rattle.ddf_cells.specs.RowSums.{is_other}
use Rattle.ddf_cells.specs.Without.{IsGivenWithout, own_sources}

-- The bytes that a cell was read as: those of the first source of its block that was read, behind others with a slot of which a read failed. Where it
-- holds no block, those of a source of its own, likewise, or zeros where it has none.
pub record IsCellGiven (failed : ℕ → Type 0) (volume : Volume) (image : Image) (element : ℕ) (part : Part) (sector position : ℕ) (bytes : List ℕ) : Type 0 where
  pub of_block : (block : ℕ) → block_at volume element position sector ≡ Some block → IsGivenBy failed image (sources volume block) bytes
  pub of_none : block_at volume element position sector ≡ None → IsGivenWithout failed image (own_sources volume.marked part position sector) bytes

-- the sum of the data cells of a row, each of them as it was read
pub record IsSumGiven (failed : ℕ → Type 0) (volume : Volume) (image : Image) (element : ℕ) (part : Part) (sector : ℕ) (bytes : List ℕ) : Type 0 where
  pub cells : ℕ → List ℕ
  pub are_given : (number position : ℕ) → slice_get (data_positions part.shape sector) number ≡ Some position
      → IsCellGiven failed volume image element part sector position (cells position)
  pub is_sum : bytes ≡ xor_all (map cells (data_positions part.shape sector))

-- what a position should hold at a sector, as it was read: the sum of the row where it holds parity, else its cell
pub record IsWantedGiven (failed : ℕ → Type 0) (volume : Volume) (image : Image) (element : ℕ) (part : Part) (sector position : ℕ) (bytes : List ℕ) : Type 0 where
  pub of_row : is_parity part position sector ≡ true → IsSumGiven failed volume image element part sector bytes
  pub of_cell : is_parity part position sector ≡ false → IsCellGiven failed volume image element part sector position bytes

-- these neighbouring sectors of an element of the array, if it is there, are so
abbrev pub AreCellsGiven : (failed : ℕ → Type 0) → Volume → Image → (element sector position : ℕ) → List (List ℕ) → (count : ℕ) → Type 0
AreCellsGiven failed volume image element sector position sectors count =
    (part : Part) → slice_get volume.parts element ≡ Some part → (k : ℕ) → k < count
    → IsCellGiven failed volume image element part (sector + k) position (slice_index_or sectors k [])

abbrev pub AreSumsGiven : (failed : ℕ → Type 0) → Volume → Image → (element sector : ℕ) → List (List ℕ) → (count : ℕ) → Type 0
AreSumsGiven failed volume image element sector sectors count =
    (part : Part) → slice_get volume.parts element ≡ Some part → (k : ℕ) → k < count
    → IsSumGiven failed volume image element part (sector + k) (slice_index_or sectors k [])

abbrev pub AreWantedGiven : (failed : ℕ → Type 0) → Volume → Image → (element sector position : ℕ) → List (List ℕ) → (count : ℕ) → Type 0
AreWantedGiven failed volume image element sector position sectors count =
    (part : Part) → slice_get volume.parts element ≡ Some part → (k : ℕ) → k < count
    → IsWantedGiven failed volume image element part (sector + k) position (slice_index_or sectors k [])

-- a position's cell is added as it was read, unless the position is the one with the parity
pub record IsCellAdded (failed : ℕ → Type 0) (volume : Volume) (image : Image) (element : ℕ) (part : Part) (sector parity other : ℕ) (old new : List ℕ) : Type 0 where
  pub cell : List ℕ
  pub is_given : (other ≡ parity → ⊥) → IsCellGiven failed volume image element part sector other cell
  pub is_added : new ≡ fold_l xor old (map (λ position. cell) (is_other parity other))

abbrev pub AreCellsAdded : (failed : ℕ → Type 0) → Volume → Image → (element sector parity other : ℕ) → (old new : List (List ℕ)) → Type 0
AreCellsAdded failed volume image element sector parity other old new =
    (part : Part) → slice_get volume.parts element ≡ Some part → (k : ℕ) → k < length old
    → IsCellAdded failed volume image element part (sector + k) parity other (slice_index_or old k []) (slice_index_or new k [])
