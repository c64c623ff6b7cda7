-- An array whose copies and parity agree (profile).
use Rattle.std.specs.Prelude.{◌≡◌, ℕ, ◌<◌, true, List, map, Option, Some, None, slice_get, length}
use Rattle.std.specs.List.{range_with_len}
use Rattle.ddf_bay.specs.Sectors.{Image}
use Rattle.ddf_parity.specs.Xor.{zeros}
use Rattle.ddf_primary.specs.Cells.{depth_of}
use Rattle.ddf_array.specs.declared.site.Site.{Site}
use Rattle.ddf_array.specs.declared.part.Part.{Part}
use Rattle.ddf_secondary.specs.declared.spot.Spot.{Spot}
use Rattle.ddf_array.specs.Places.{site_at}
use Rattle.ddf_array.specs.Levels.{keeps_parity}
use Rattle.ddf_array.specs.Volume.{Volume}
use Rattle.ddf_array.specs.Cells.{element_cells, block_spots}
use Rattle.ddf_array.specs.Sources.{Source, all_of, row_without, copies, every_source}
use Rattle.ddf_array.specs.Values.{bytes_at, given, sum_at, value}
use Rattle.ddf_array.specs.Within.{is_mirrored}

-- all cells of a row, where all are available
abbrev pub whole_row : Part → ℕ → Option (List Site)
whole_row part sector = all_of (map (λ position. site_at part.places position sector) (range_with_len 0 (length part.places)))

-- every source of a block gives its value, and each whole row of a parity element sums to zero
pub record IsRedundant (volume : Volume) (image : Image) : Type 0 where
  pub agree : (block k : ℕ) (source : Source) → slice_get (every_source volume block) k ≡ Some source
      → value volume image block ≡ Some (given image source)
  pub sum_to_zero : (element sector : ℕ) (part : Part) (sites : List Site) → slice_get volume.parts element ≡ Some part
      → keeps_parity part.shape.layout ≡ true → sector < depth_of part.shape → whole_row part sector ≡ Some sites
      → sum_at image sites ≡ zeros

-- The same, element by element: all available cells of a block are equal, each whole row of a parity element sums to
-- zero, and where the elements are mirrored, what a row gives of a cell that isn't available is the block's value.
pub record IsConsistent (volume : Volume) (image : Image) : Type 0 where
  pub equal_copies : (block j k : ℕ) (one other : Site) → slice_get (copies volume block) j ≡ Some one
      → slice_get (copies volume block) k ≡ Some other → bytes_at image one ≡ bytes_at image other
  pub sum_to_zero : (element sector : ℕ) (part : Part) (sites : List Site) → slice_get volume.parts element ≡ Some part
      → keeps_parity part.shape.layout ≡ true → sector < depth_of part.shape → whole_row part sector ≡ Some sites
      → sum_at image sites ≡ zeros
  pub mirrored_rows : is_mirrored volume ≡ true → (block j k : ℕ) (spot : Spot) (part : Part) (cell : ℕ × ℕ) (sites : List Site)
      → slice_get (block_spots volume block) j ≡ Some spot → slice_get volume.parts spot.element ≡ Some part
      → keeps_parity part.shape.layout ≡ true → slice_get (element_cells part.shape spot.block) k ≡ Some cell
      → site_at part.places cell.0 cell.1 ≡ None → row_without part.places cell.0 cell.1 ≡ Some sites
      → value volume image block ≡ Some (sum_at image sites)
