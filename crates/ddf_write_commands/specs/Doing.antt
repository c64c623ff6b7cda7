-- What a command does to the blocks of an array, over its view, between the steps of its group.
use Rattle.std.specs.Prelude.{ℕ}
use Rattle.ddf_bay.specs.Sectors.{Image, Outcomes}
use Rattle.ddf_array.specs.Volume.{Volume}

-- It begins over disks that hold an image, `before`, and of which a stop may leave `may`.
pub record Doing : Type 1 where
  -- an image that a stop may leave on the way
  pub IsAmong : Volume → (before : Image) → (may : Outcomes) → Image → Type 0
  -- what the disks may hold by it: each sector is as before, or has bytes that it may get
  pub IsLeft : Volume → (before image : Image) → Type 0
  -- it was done, where reads of these slots failed meanwhile
  pub HasDone : (failed : ℕ → Type 0) → Volume → (before image : Image) → Type 0
  -- no source is left at a slot of a cell that it needs
  pub NoneLeft : (failed : ℕ → Type 0) → Volume → (slot : ℕ) → Type 0
  -- the most sectors that it asks to be written
  pub most_sectors : Volume → ℕ
