-- The values of the cells of a position, and where they can be read from (profile).
use Rattle.std.specs.Prelude.{◌≡◌, ◌⊎◌, ◌≢◌, ℕ, ◌+◌, ◌/◌, ◌%◌, ◌<◌, ◌≤◌, Bool, true, false, ◌==◌, List, [], ◌∷◌, Some, None, slice_get, slice_index_or, if◌then◌else◌}
use Rattle.ddf_bay.specs.Sectors.{Image}
use Rattle.ddf_bay.specs.State.{BayState}
use Rattle.ddf_primary.specs.Cells.{parity_member}
use Rattle.ddf_array.specs.declared.part.Part.{Part}
use Rattle.ddf_array.specs.Levels.{keeps_parity}
use Rattle.ddf_array.specs.Volume.{Volume, capacity}
use Rattle.ddf_array.specs.Sources.{Source, copies, first_copy, sources}
use Rattle.ddf_array.specs.Rows.{block_at, cell_value, data_positions, row_sum}
use Rattle.ddf_array.specs.Values.{bytes_at}
use Rattle.ddf_array.specs.declared.site.Site.{Site}
use Rattle.ddf_cells.specs.Without.{own_sources}
use Rattle.ddf_array.specs.Sound.{AreSectors}
use Rattle.ddf_array.specs.Redundant.{IsRedundant}
use Rattle.ddf_array.specs.Within.{is_within}
use Rattle.ddf_read.specs.Reading.{NoneFailed, NoneLeft}

-- where the value of a data cell can be read from: the sources of its block, if it holds one
abbrev pub cell_sources : Volume → (element : ℕ) → Part → (sector position : ℕ) → List Source
cell_sources volume element part sector position =
    elim (block_at volume element position sector) [
      | None ↦ own_sources volume.marked part position sector
      | Some block ↦ sources volume block
    ]

-- a position holds the parity of the row of a sector
abbrev pub is_parity : Part → (position sector : ℕ) → Bool
is_parity part position sector = elim (parity_member part.shape (sector / part.shape.strip)) [ None ↦ false | Some member ↦ member == position ]

-- what a position should hold at a sector: the sum of the row where it holds parity, else the value of the cell
abbrev pub wanted : Volume → Image → (element : ℕ) → Part → (sector position : ℕ) → List ℕ
wanted volume image element part sector position =
    if is_parity part position sector then row_sum volume image element part sector else cell_value volume image element part sector position

-- of these neighbouring sectors each is the value of its cell
abbrev pub AreCells : Volume → Image → (element : ℕ) → Part → (sector position : ℕ) → List (List ℕ) → (count : ℕ) → Type 0
AreCells volume image element part sector position sectors count =
    (k : ℕ) → k < count → slice_index_or sectors k [] ≡ cell_value volume image element part (sector + k) position

-- the same of an element of the array, if it is there
abbrev pub AreCellsAt : Volume → Image → (element sector position : ℕ) → List (List ℕ) → (count : ℕ) → Type 0
AreCellsAt volume image element sector position sectors count =
    (part : Part) → slice_get volume.parts element ≡ Some part → AreCells volume image element part sector position sectors count

-- of these each is the sum of its row
abbrev pub AreSums : Volume → Image → (element : ℕ) → Part → (sector : ℕ) → List (List ℕ) → (count : ℕ) → Type 0
AreSums volume image element part sector sectors count =
    (k : ℕ) → k < count → slice_index_or sectors k [] ≡ row_sum volume image element part (sector + k)

-- of these each is what the position should hold
abbrev pub AreWanted : Volume → Image → (element : ℕ) → Part → (sector position : ℕ) → List (List ℕ) → (count : ℕ) → Type 0
AreWanted volume image element part sector position sectors count =
    (k : ℕ) → k < count → slice_index_or sectors k [] ≡ wanted volume image element part (sector + k) position

-- the same of an element of the array, if it is there
abbrev pub AreWantedAt : Volume → Image → (element sector position : ℕ) → List (List ℕ) → (count : ℕ) → Type 0
AreWantedAt volume image element sector position sectors count =
    (part : Part) → slice_get volume.parts element ≡ Some part → AreWanted volume image element part sector position sectors count

-- so many sectors lie in one row of strips, where the element keeps parity
abbrev pub IsInOneRow : Part → (sector count : ℕ) → Type 0
IsInOneRow part sector count = keeps_parity part.shape.layout ≡ true → sector % part.shape.strip + count ≤ part.shape.strip

-- all available cells of each block hold the same
abbrev pub HaveEqualCopies : Volume → Image → Type 0
HaveEqualCopies volume image =
    (block j k : ℕ) (one other : Site) → slice_get (copies volume block) j ≡ Some one → slice_get (copies volume block) k ≡ Some other → bytes_at image one ≡ bytes_at image other

-- What is read is sure: no read failed on a slot of the array's available places, or the array is redundant, so that
-- each source of a block gives its value, or it is marked, so that nothing but its copies is read, and these are equal.
abbrev pub IsSure : {D : Type 0} → Volume → (old new : BayState D) → Type 0
IsSure volume old new =
    NoneFailed volume old new ⊎ ((AreSectors old.held × IsRedundant volume old.held) ⊎ ((volume.marked ≡ true) × HaveEqualCopies volume old.held))

-- each block can be read: the array is within its level, and where it is marked each has an available cell
pub record IsReadable (volume : Volume) : Type 0 where
  pub within : is_within volume ≡ true
  pub copied : volume.marked ≡ true → (block : ℕ) → block < capacity volume → first_copy volume block ≢ None

-- no source is left at a slot for one of so many neighbouring cells
pub record NoneLeftAmong (failed : ℕ → Type 0) (volume : Volume) (element : ℕ) (part : Part) (sector count position slot : ℕ) : Type 0 where
  pub cell : ℕ
  pub is_in : cell < count
  pub none_left : NoneLeft failed (cell_sources volume element part (sector + cell) position) slot

-- the cells that what a position should hold at a sector is made of: the data cells of the row where it holds parity, else its own
abbrev pub needed_positions : Part → (sector position : ℕ) → List ℕ
needed_positions part sector position = if is_parity part position sector then data_positions part.shape sector else position ∷ []

-- no source is left at a slot for what a position should hold at one of so many neighbouring sectors
pub record NoneLeftFor (failed : ℕ → Type 0) (volume : Volume) (element : ℕ) (part : Part) (sector count position slot : ℕ) : Type 0 where
  pub cell : ℕ
  pub is_in : cell < count
  pub number : ℕ
  pub other : ℕ
  pub is_needed : slice_get (needed_positions part (sector + cell) position) number ≡ Some other
  pub none_left : NoneLeft failed (cell_sources volume element part (sector + cell) other) slot
