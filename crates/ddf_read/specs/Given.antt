-- The sectors that a read of neighbouring blocks gives (profile).
use Rattle.std.specs.Prelude.{◌≡◌, ◌≢◌, ℕ, ◌+◌, ◌<◌, List, [], Some, slice_index_or}
use Rattle.ddf_bay.specs.Sectors.{Image}
use Rattle.ddf_array.specs.Volume.{Volume}
use Rattle.ddf_array.specs.Sources.{sources}
use Rattle.ddf_array.specs.Values.{value}
use Rattle.ddf_read.specs.Reading.{IsGivenBy, NoneLeft}

-- the first sectors, so many, are the blocks from start on as their sources give them
abbrev pub AreGiven : (failed : ℕ → Type 0) → Image → Volume → (start count : ℕ) → List (List ℕ) → Type 0
AreGiven failed image volume start count sectors =
    (k : ℕ) → k < count → IsGivenBy failed image (sources volume (start + k)) (slice_index_or sectors k [])

-- the first sectors, so many, are the values of the blocks from start on
abbrev pub AreValues : Image → Volume → (start count : ℕ) → List (List ℕ) → Type 0
AreValues image volume start count sectors =
    (k : ℕ) → k < count → value volume image (start + k) ≡ Some (slice_index_or sectors k [])

-- each of these blocks has a source
abbrev pub HaveSources : Volume → (start count : ℕ) → Type 0
HaveSources volume start count = (k : ℕ) → k < count → sources volume (start + k) ≢ []

-- no source is left at a slot for one of these blocks
pub record NoneLeftIn (failed : ℕ → Type 0) (volume : Volume) (start count slot : ℕ) : Type 0 where
  pub block : ℕ
  pub is_in : block < count
  pub none_left : NoneLeft failed (sources volume (start + block)) slot
