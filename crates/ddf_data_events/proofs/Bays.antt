-- What every bay tells.
use Rattle.ddf_bay.specs.Sectors.{Image, IsLeft}
use Rattle.ddf_bay.specs.State.{BayState}
use Rattle.ddf_bay.specs.Told.{IsTold}
use Rattle.ddf_array.specs.Sound.{AreSectors}

abbrev pub AreBays : {B : Type 0} (disks : B → BayState B) → Type 0
AreBays {B} disks = (bay : B) → IsTold (disks bay)

module _ {B : Type 0} (disks : B → BayState B) (are : AreBays disks) where
  -- the sectors of what a stop may leave have 512 bytes
  pub sectors : (bay : B) (image : Image) → IsLeft (disks bay).may_hold image → AreSectors image
  sectors bay image left s l = ((are bay).whole s l (image s l) (left s l)).size

  pub held_sectors : (bay : B) → (disks bay).tells_left → AreSectors (disks bay).held
  held_sectors bay tells_left = sectors bay (disks bay).held ((are bay).held tells_left)
