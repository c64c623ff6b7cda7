-- The sectors that an array lies on.
use Rattle.std.specs.Prelude.{ℕ}
use Rattle.ddf_bay.specs.Sectors.{Image}
use Rattle.ddf_array.specs.Volume.{Volume}
use Rattle.ddf_cells.specs.Apart.{LiesAt}
use Rattle.ddf_cells.specs.Writing.{StaysBut}

-- a sector of the bay is one of an extent of the array, in sync or not
pub record IsItsCell (volume : Volume) (slot lba : ℕ) : Type 0 where
  pub element : ℕ
  pub position : ℕ
  pub sector : ℕ
  pub lies : LiesAt volume element position sector slot lba

-- only sectors of the array changed
abbrev pub ChangesItsCells : Volume → (before image : Image) → Type 0
ChangesItsCells volume = StaysBut (IsItsCell volume)
