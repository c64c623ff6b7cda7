-- The parity cells of an array, and runs of them.
use Rattle.std.specs.Prelude.{◌≡◌, ℕ, ◌+◌, ◌/◌, ◌<◌, Some, slice_get}
use Rattle.ddf_primary.specs.Cells.{depth_of, parity_member}
use Rattle.ddf_array.specs.declared.part.Part.{Part}
use Rattle.ddf_array.specs.Places.{site_at, site_on}
use Rattle.ddf_array.specs.Volume.{Volume}

-- a sector of the bay is an available parity cell of the array
pub record IsParityCell (volume : Volume) (slot lba : ℕ) : Type 0 where
  pub element : ℕ
  pub position : ℕ
  pub sector : ℕ
  pub part : Part
  pub is_part : slice_get volume.parts element ≡ Some part
  pub is_parity : parity_member part.shape (sector / part.shape.strip) ≡ Some position
  pub deep : sector < depth_of part.shape
  pub is_there : site_at part.places position sector ≡ Some (site_on slot lba)

-- a sector is that of a position in one of so many neighbouring rows
pub record IsOfRows (part : Part) (position sector rows slot lba : ℕ) : Type 0 where
  pub row : ℕ
  pub is_in : row < rows
  pub is_there : site_at part.places position (sector + row) ≡ Some (site_on slot lba)
