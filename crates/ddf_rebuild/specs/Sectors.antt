-- The target's sectors, from one on up to an end.
use Rattle.std.specs.Prelude.{◌≡◌, ℕ, ◌+◌, ◌<◌, ◌≤◌, Some, slice_get}
use Rattle.ddf_bay.specs.Sectors.{Image}
use Rattle.ddf_array.specs.declared.part.Part.{Part}
use Rattle.ddf_array.specs.Volume.{Volume}
use Rattle.ddf_read.specs.Reading.{NoneLeft}
use Rattle.ddf_cells.specs.CellSources.{cell_sources, needed_positions, wanted}
use Rattle.ddf_cells.specs.GivenCells.{IsWantedGiven}
use Rattle.ddf_rebuild.specs.declared.aim.Aim.{Aim}

-- each of them holds what it should
abbrev pub AreRebuilt : Volume → Aim → (from end : ℕ) → (before image : Image) → Type 0
AreRebuilt volume aim from end before image =
    (part : Part) → slice_get volume.parts aim.element ≡ Some part → (sector : ℕ) → from ≤ sector → sector < end
    → image aim.slot (aim.start + sector) ≡ wanted volume before aim.element part sector aim.position

-- each of them holds what was read for it
abbrev pub AreGiven : (failed : ℕ → Type 0) → Volume → Aim → (from end : ℕ) → (before image : Image) → Type 0
AreGiven failed volume aim from end before image =
    (part : Part) → slice_get volume.parts aim.element ≡ Some part → (sector : ℕ) → from ≤ sector → sector < end
    → IsWantedGiven failed volume before aim.element part sector aim.position (image aim.slot (aim.start + sector))

-- no source is left at a slot for what the target should hold at one of them
pub record NoneLeftIn (failed : ℕ → Type 0) (volume : Volume) (aim : Aim) (from end slot : ℕ) : Type 0 where
  pub part : Part
  pub is_part : slice_get volume.parts aim.element ≡ Some part
  pub sector : ℕ
  pub is_from : from ≤ sector
  pub is_below : sector < end
  pub number : ℕ
  pub other : ℕ
  pub is_needed : slice_get (needed_positions part sector aim.position) number ≡ Some other
  pub none_left : NoneLeft failed (cell_sources volume aim.element part sector other) slot
