-- What an import leaves of the disks that join, as a history of their former group tells of it.
use Rattle.std.proofs.Common.{◌≡◌, ◌⊎◌, ℕ, true, false, List, ap, sym, ◌∙◌, inl, inr, subst}
use Rattle.std.specs.Str.{bytes_eq}
use Rattle.ddf_bay.specs.Moments.{StopsLeave}
use Rattle.ddf_bay.specs.Sectors.{IsLeft}
use Rattle.ddf_bay.specs.State.{BayState}
use Rattle.ddf_bay.proofs.Steps.{stops_weaken}
use Rattle.ddf_config.specs.Configuration.{Configuration}
use Rattle.ddf_view.specs.View.{View}
use Rattle.ddf_view.proofs.Tests.{same_bytes}
use Rattle.ddf_history.specs.Reading.{Scene, Shown}
use Rattle.ddf_history.specs.Groups.{groups}
use Rattle.ddf_history.specs.Issued.{Past, is_away}
use Rattle.ddf_history.specs.Promise.{IsRight}
use Rattle.ddf_history.specs.Scenes.{scene_of}
use Rattle.ddf_history.proofs.Writing.{part_right}
use Rattle.ddf_steps.specs.Committed.{slots_of}
use Rattle.ddf_joining.specs.JoinValue.{JoinValue}
use Rattle.ddf_history_joins.specs.Joins.{HasLeft, IsTakenOver}
use Rattle.ddf_history_steps.specs.Kept.{AreAllKept, is_slot}

module _ (group former : List ℕ) (differ : bytes_eq former group ≡ false) (former_past : Past (groups former)) where
  -- A slot that showed what it should does so still, or shows a copy of another group alone.
  still_or_gone : (next : Configuration) (before after : Scene View) (slot : ℕ) → IsRight former_past.changes (former_past.disk slot) (before slot) → IsTakenOver group next before after slot
      → HasLeft former former_past (after slot) slot
  still_or_gone next before after slot right (inl same) = inl (subst (λ (shown : Shown View). IsRight former_past.changes (former_past.disk slot) shown) (sym same) right)
  still_or_gone next before after slot right (inr (inl part)) = inl (part_right former_past.changes (former_past.disk slot) (before slot) (after slot) part right)
  still_or_gone next before after slot right (inr (inr new)) =
      let is : group ≡ new.0.group = same_bytes group new.0.group new.2 in
      inr (new.0, new.1, ap (bytes_eq former) (sym is) ∙ differ)

  pub former_disks : {D : Type 0} (old new : BayState D) (join : JoinValue) → AreAllKept former former_past old → IsLeft old.may_hold old.held
      → StopsLeave old new (λ image. IsLeft old.may_hold image
      ⊎ ((slot : ℕ) → is_slot (slots_of join.joining) slot ≡ true → IsTakenOver group join.one.step.config (scene_of old.sizes old.held) (scene_of old.sizes image) slot))
      → StopsLeave old new (λ image. (slot : ℕ) → is_slot (slots_of join.joining) slot ≡ true → is_away former_past slot ≡ false
      → HasLeft former former_past (scene_of old.sizes image slot) slot)
  former_disks old new join kept held leave = stops_weaken leave (λ image one. elim one [
    | inl before ↦ λ slot here there. inl ((kept image before).each slot there)
    | inr taken ↦ λ slot here there.
        still_or_gone join.one.step.config (scene_of old.sizes old.held) (scene_of old.sizes image) slot ((kept old.held held).each slot there) (taken slot here)
  ])
