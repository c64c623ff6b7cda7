-- A bay that is seen through masks, by what the bay below tells.
use Rattle.std.specs.Prelude.{List, Option}
use Rattle.ddf_bay.specs.Sectors.{Image}
use Rattle.ddf_bay.specs.State.{BayState}
use Rattle.ddf_hidden_logs.specs.declared.mask.Mask.{Mask}
use Rattle.ddf_hidden_logs.specs.Masks.{mask_of, turn}

-- an image, with each sector as it is seen
abbrev pub shown_image : List (Option Mask) → Image → Image
shown_image masks image s l = turn (mask_of masks s) l (image s l)

-- what is held, what a stop may leave and what it might have left, as it is seen
abbrev pub shown_state : {D : Type 0} → List (Option Mask) → BayState D → BayState D
shown_state masks disks = record disks {
  held = shown_image masks disks.held;
  may_hold = λ s l bytes. disks.may_hold s l (turn (mask_of masks s) l bytes);
  left_since = λ t image. disks.left_since t (shown_image masks image);
}
