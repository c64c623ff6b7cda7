-- What is done to the blocks of an array, so far as it tells the array's data.
use Rattle.std.proofs.Common.{◌≡◌, ◌⊎◌, ℕ, Bool, List}
use Rattle.ddf_bay.specs.Sectors.{Image}
use Rattle.ddf_array.specs.Apart.{IsApart}
use Rattle.ddf_array.specs.Sound.{AreSectors}
use Rattle.ddf_array.specs.Volume.{IsVolume, Volume}
use Rattle.ddf_cells.specs.Alike.{AreAlike}
use Rattle.ddf_data_array.specs.Allowed.{Allowed, May}
use Rattle.ddf_data_array.specs.Changing.{IsWritable}
use Rattle.ddf_data_array.specs.Kept.{IsKeptData}
use Rattle.ddf_data_group.specs.Clear.{IsItsCell}

-- each sector of an image is as before, or has bytes that it may get
abbrev pub IsGiven : (Gives : ℕ → ℕ → List ℕ → Type 0) → (before image : Image) → Type 0
IsGiven Gives before image = (s l : ℕ) → (image s l ≡ before s l) ⊎ Gives s l (image s l)

pub record Carrying : Type 1 where
  -- a sector may get these bytes by it, where the disks hold an image
  pub Gives : Volume → Image → (slot lba : ℕ) → List ℕ → Type 0
  -- the blocks have for sure what they get
  pub Holds : Volume → Image → Type 0
  -- what the blocks may have on the way, and once it is done
  pub next : Allowed → Allowed
  pub last : Allowed → Allowed
  pub its : (v : Volume) → IsVolume v → (before : Image) (slot lba : ℕ) (bytes : List ℕ) → Gives v before slot lba bytes → IsItsCell v slot lba
  pub same : (v : Volume) → IsVolume v → (one other : Image) → AreAlike v one other → (slot lba : ℕ) (bytes : List ℕ) → Gives v one slot lba bytes → Gives v other slot lba bytes
  pub holds_same : (v : Volume) → IsVolume v → (one other : Image) → AreAlike v one other → Holds v one → Holds v other
  pub weaker : (allowed : Allowed) (block : ℕ) (bytes : List ℕ) → May (allowed block) bytes → May (next allowed block) bytes
  pub amid : (is_absent : ℕ → ℕ → Bool) (v : Volume) → IsVolume v → IsApart v → IsWritable v → (before image : Image) (allowed : Allowed) → IsKeptData is_absent v before allowed
      → IsGiven (Gives v before) before image → AreSectors image → IsKeptData is_absent v image (next allowed)
  pub done : (is_absent : ℕ → ℕ → Bool) (v : Volume) → IsVolume v → IsApart v → IsWritable v → (before image : Image) (allowed : Allowed) → IsKeptData is_absent v before allowed
      → IsGiven (Gives v before) before image → AreSectors image → Holds v image → IsKeptData is_absent v image (last allowed)
