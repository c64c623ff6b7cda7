-- What a bay promises of what it tells at one moment.
use Rattle.std.specs.Prelude.{ℕ, ◌≤◌, List}
use Rattle.ddf_bay.specs.Sectors.{Image, IsLeft, IsWhole}
use Rattle.ddf_bay.specs.State.{BayState}

pub record IsTold {D : Type 0} (state : BayState D) : Type 0 where
  -- the bay as it reads is one of its images
  pub held : state.tells_left → IsLeft state.may_hold state.held
  -- a sector is whole: what a stop may leave in it is 512 bytes
  pub whole : (s l : ℕ) (bytes : List ℕ) → state.may_hold s l bytes → IsWhole bytes
  -- since this moment there is no other
  pub only_now : (image : Image) → state.left_since state.moment image → IsLeft state.may_hold image
  -- this moment is one of those since an earlier one
  pub counts : (t : ℕ) (image : Image) → t ≤ state.moment → IsLeft state.may_hold image → state.left_since t image
  -- where an image is told, the bay tells at this moment what a stop may leave
  pub since : (t : ℕ) (image : Image) → state.left_since t image → state.tells_left
