-- The cells of blocks on one position of an element, and their stretches: neighbouring blocks whose cells there follow one
-- another, as many as there are (profile). Each can be written in one call.
use Rattle.std.specs.Prelude.{◌≡◌, ◌≢◌, ℕ, ◌+◌, ◌<◌, ◌≤◌, ◌==◌, ◌||◌, List, [], ◌∷◌, map, length, Option, Some, None, option_and_then, slice_get, slice_index_or, if◌then◌else◌}
use Rattle.std.specs.List.{range_with_len, sum_by}
use Rattle.ddf_primary.specs.Copies.{sector_on}
use Rattle.ddf_secondary.specs.Spots.{spots}
use Rattle.ddf_array.specs.declared.part.Part.{Part}
use Rattle.ddf_array.specs.declared.site.Site.{Site}
use Rattle.ddf_array.specs.Places.{site_at, site_on}
use Rattle.ddf_array.specs.Volume.{Volume}
use Rattle.ddf_array.specs.Cells.{is_in_every}
use Rattle.ddf_array.specs.Sources.{copies}
use Rattle.ddf_read.specs.Stretches.{follows}

-- the available cell of a block of an element on a position
abbrev pub cell_in : Part → (position block : ℕ) → Option Site
cell_in part position block = option_and_then (site_at part.places position) (sector_on part.shape position block)

abbrev pub cell_of : Option Part → (position block : ℕ) → Option Site
cell_of None position block = None
cell_of (Some part) position block = cell_in part position block

-- the available cell of a block of the array on a position of an element
abbrev pub cell_on : Volume → (element position block : ℕ) → Option Site
cell_on volume element position block =
    elim (slice_get (spots volume.tiers) block) [
      | None ↦ None
      | Some spot ↦
          if is_in_every volume.tiers.level || spot.element == element then cell_of (slice_get volume.parts element) position spot.block
          else None
    ]

-- those of a range of blocks
abbrev pub cells_on : Volume → (element position start count : ℕ) → List (Option Site)
cells_on volume element position start count = map (cell_on volume element position) (range_with_len start count)

-- that a stretch ends with the first of two, as a number
abbrev pub is_end : Option Site → Option Site → ℕ
is_end None next = 0
is_end (Some one) None = 1
is_end (Some one) (Some next) = if follows one next then 0 else 1

-- how many of these cells are there
abbrev pub how_many : List (Option Site) → ℕ
how_many [] = 0
how_many (None ∷ others) = how_many others
how_many (Some one ∷ others) = 1 + how_many others

-- how many stretches these cells make
abbrev pub stretches_on : List (Option Site) → ℕ
stretches_on [] = 0
stretches_on (one ∷ []) = is_end one None
stretches_on (one ∷ (next ∷ others)) = is_end one next + stretches_on (next ∷ others)

-- how many positions an element has
abbrev pub places_at : List Part → (element : ℕ) → ℕ
places_at parts element = elim (slice_get parts element) [ None ↦ 0 | Some part ↦ length part.places ]

-- a number for each position of an element, and their sum
abbrev pub over_element : (ℕ → ℕ → ℕ) → List Part → (element : ℕ) → ℕ
over_element number parts element = sum_by (number element) (range_with_len 0 (places_at parts element))

-- the same of all positions of all elements
abbrev pub over_array : (ℕ → ℕ → ℕ) → List Part → ℕ
over_array number parts = sum_by (over_element number parts) (range_with_len 0 (length parts))

-- how many stretches the cells of a range make, position by position
abbrev pub write_stretches : Volume → (start count : ℕ) → ℕ
write_stretches volume start count =
    over_array (λ element position. stretches_on (cells_on volume element position start count)) volume.parts

-- how many cells these are, counted position by position
abbrev pub write_cells : Volume → (start count : ℕ) → ℕ
write_cells volume start count =
    over_array (λ element position. how_many (cells_on volume element position start count)) volume.parts

-- how many available cells a range of blocks has
abbrev pub copy_cells : Volume → (start count : ℕ) → ℕ
copy_cells volume start count = sum_by (λ block. length (copies volume block)) (range_with_len start count)

-- so many blocks have cells on a position that follow one another from a sector on, and no more of them do
pub record IsRunOn (volume : Volume) (element position : ℕ) (first : Site) (start count most : ℕ) : Type 0 where
  pub some : 0 < count
  pub within : count ≤ most
  pub follow : (k : ℕ) → k < count → cell_on volume element position (start + k) ≡ Some (site_on first.slot (first.lba + k))
  pub ends : count < most → cell_on volume element position (start + count) ≢ Some (site_on first.slot (first.lba + count))

-- the k-th of these blocks has an available cell at this sector
pub record IsCellOf (volume : Volume) (start count slot lba : ℕ) : Type 0 where
  pub k : ℕ
  pub below : k < count
  pub i : ℕ
  pub is_cell : slice_get (copies volume (start + k)) i ≡ Some (site_on slot lba)

-- what a write of these blocks may give a sector at which one of them has an available cell: the block's bytes
abbrev pub GivesCells : Volume → (start : ℕ) → List (List ℕ) → (slot lba : ℕ) → List ℕ → Type 0
GivesCells volume start sectors slot lba bytes =
    (cell : IsCellOf volume start (length sectors) slot lba) × (bytes ≡ slice_index_or sectors cell.k [])
