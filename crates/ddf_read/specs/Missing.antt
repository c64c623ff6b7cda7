-- Cells that the other cells of their rows give.
use Rattle.std.specs.Prelude.{◌≡◌, ◌+◌, ◌<◌, ◌≤◌, List, Option, Some, slice_get}
use Rattle.ddf_array.specs.declared.part.Part.{Part}
use Rattle.ddf_array.specs.declared.site.Site.{Site}
use Rattle.ddf_array.specs.Sources.{row_without}
use Rattle.ddf_array.specs.Volume.{Volume}
use Rattle.ddf_read.specs.declared.missing.MissingCell.{MissingCell}

-- a row is the one that gives this cell of an element, which has so many sectors from it on
pub record IsMissing (part : Part) (row : Option (List Site)) (cell : MissingCell) : Type 0 where
  pub sites : List Site
  pub row_is : row ≡ Some sites
  pub gives : row_without part.places cell.position cell.sector ≡ Some sites
  pub some : 0 < cell.left
  pub room : cell.sector + cell.left ≤ part.shape.blocks

-- the same of an element of an array
pub record IsMissingAt (volume : Volume) (row : Option (List Site)) (cell : MissingCell) : Type 0 where
  pub part : Part
  pub is_there : slice_get volume.parts cell.element ≡ Some part
  pub is_missing : IsMissing part row cell
