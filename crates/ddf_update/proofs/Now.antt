-- What a stop may leave now, after calls, a failed one too.
use Rattle.std.proofs.Common.{ℕ, ◌≤◌}
use Rattle.ddf_bay.specs.State.{BayState}
use Rattle.ddf_bay.specs.Sectors.{Image, IsLeft}
use Rattle.ddf_bay.specs.Moments.{StopsLeave}
use Rattle.ddf_bay.proofs.Steps.{stops_all}
use Rattle.ddf_update.specs.Gate.{StopsLeaveSince}

-- a bay's laws, with the names that they have there
module _ {D : Type 0} {old new : BayState D} {P : Image → Type 0}
    (counts_now : (t : ℕ) (image : Image) → t ≤ new.moment → IsLeft new.may_hold image → new.left_since t image) where
  -- it has P, where all that a stop might leave at the start has P
  pub left_now : ((image : Image) → old.left_since old.moment image → IsLeft old.may_hold image)
      → StopsLeave old new P → ((image : Image) → IsLeft old.may_hold image → P image)
      → (image : Image) → IsLeft new.may_hold image → P image
  left_now only_now steps at_start image left = stops_all only_now steps at_start image (counts_now old.moment image steps.later left)

  -- it has P, where a call on the way made sure first
  pub left_now_since : StopsLeaveSince old new P → (image : Image) → IsLeft new.may_hold image → P image
  left_now_since steps image left = steps.since image (counts_now steps.synced image steps.until left)
