-- Blocks whose sources lie side by side: those of one strip (profile).
use Rattle.std.specs.Prelude.{◌≡◌, ℕ, ◌+◌, ◌%◌, ◌<◌, ◌≤◌, true, ◌==◌, ◌||◌, map, Some, option_map, slice_get, length}
use Rattle.ddf_primary.specs.Placement.{Placement}
use Rattle.ddf_primary.specs.Cells.{cells, unit_of}
use Rattle.ddf_primary.specs.Copies.{sector_on}
use Rattle.ddf_secondary.specs.declared.spot.Spot.{Spot}
use Rattle.ddf_secondary.specs.Spots.{spots}
use Rattle.ddf_array.specs.declared.part.Part.{Part}
use Rattle.ddf_array.specs.declared.site.Site.{Site}
use Rattle.ddf_array.specs.Places.{site_on}
use Rattle.ddf_array.specs.Cells.{is_in_every}
use Rattle.ddf_array.specs.Volume.{Volume}
use Rattle.ddf_array.specs.Sources.{copies, rows}

-- a sector so many further on its slot
abbrev pub further : ℕ → Site → Site
further k site = site_on site.slot (site.lba + k)

-- the cells of these blocks of an element are those of the first, so many sectors further on each member
abbrev pub CellsLieAlong : Placement → (block count : ℕ) → Type 0
CellsLieAlong shape block count =
    (k member : ℕ) → k < count → sector_on shape member (block + k) ≡ option_map (λ sector. sector + k) (sector_on shape member block)

-- so many blocks of an element do, all of one of its units
pub record IsAlong (part : Part) (block count : ℕ) : Type 0 where
  pub cells_lie : CellsLieAlong part.shape block count
  pub in_unit : block % unit_of part.shape + count ≤ unit_of part.shape
  pub in_element : block + count ≤ length (cells part.shape)

-- the same of an element of an array, if it is there
abbrev pub IsAlongAt : Volume → (element block count : ℕ) → Type 0
IsAlongAt volume element block count = (part : Part) → slice_get volume.parts element ≡ Some part → IsAlong part block count

-- The blocks of the array from one on, so many, are neighbours in an element, or in every one where each holds all, and their
-- cells lie along there. The sources of each are those of the first, so many sectors further.
pub record LieAlong (volume : Volume) (start count : ℕ) : Type 0 where
  pub spots_are : (k : ℕ) (spot : Spot) → k < count → slice_get (spots volume.tiers) start ≡ Some spot
      → slice_get (spots volume.tiers) (start + k) ≡ Some (record { element = spot.element; block = spot.block + k })
  pub cells_are : (element : ℕ) (spot : Spot) → slice_get (spots volume.tiers) start ≡ Some spot
      → (is_in_every volume.tiers.level || spot.element == element) ≡ true → IsAlongAt volume element spot.block count
  pub copies_are : (k : ℕ) → k < count → copies volume (start + k) ≡ map (further k) (copies volume start)
  pub rows_are : (k : ℕ) → k < count → rows volume (start + k) ≡ map (map (further k)) (rows volume start)
