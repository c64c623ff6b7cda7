-- What a call may leave of slots that it doesn't write.
use Rattle.std.specs.Prelude.{◌≡◌, ℕ, false, List}
use Rattle.ddf_bay.specs.Moments.{StopsLeave}
use Rattle.ddf_bay.specs.State.{BayState}
use Rattle.ddf_history_steps.specs.Kept.{is_slot}

-- A stop at any moment since the call's entry leaves of every slot but these what it might have left before.
abbrev pub LeavesOthers : {D : Type 0} (old new : BayState D) → (slots : List ℕ) → Type 0
LeavesOthers old new slots = StopsLeave old new (λ image. (s l : ℕ) → is_slot slots s ≡ false → old.may_hold s l (image s l))
