-- `commit` keeps a history at whose end the group stands, and the group stands at the end again behind it.
use Rattle.std.proofs.Common.{◌≡◌, ◌⊎◌, ℕ, ◌≤◌, Bool, true, false, List, [], ◌∷◌, length, Option, None, refl, ap, sym, ◌∙◌, subst, inl, inr, arith}
use Rattle.std.proofs.Math.Path.{fun_ext}
use Rattle.std.specs.Prelude.{slice_index}
use Rattle.ddf_bay.specs.Moments.{StopsLeave}
use Rattle.ddf_bay.specs.Sectors.{Image, IsLeft}
use Rattle.ddf_bay.specs.State.{BayState, size_of}
use Rattle.ddf_bay.proofs.Steps.{stops_weaken}
use Rattle.ddf_update.specs.Changes.{AreChanged, IsLeftChangingAll}
use Rattle.ddf_history.specs.Groups.{groups}
use Rattle.ddf_history.specs.Issued.{Past}
use Rattle.ddf_history.specs.Promise.{IsKept}
use Rattle.ddf_history.specs.Scenes.{scene_of}
use Rattle.ddf_recovery.specs.Committed.{MayWriteNext, group_next, left_behind, next_slots, next_updates}
use Rattle.ddf_seats.specs.Group.{GroupValue}
use Rattle.ddf_assembly.specs.Reading.{HaveAnchors}
use Rattle.ddf_steps.specs.Ready.{ReadyStep, steps_from}
use Rattle.ddf_recovery.specs.Ready.{ReadyValue}
use Rattle.ddf_seats.specs.Seated.{seated}
use Rattle.ddf_seats.specs.Changing.{SlotsRise}
use Rattle.ddf_recovery.proofs.Committed.{may_write_next}
use Rattle.ddf_recovery.proofs.CommittedAfter.{after_is, committed_holds, left_ready}
use Rattle.ddf_history_steps.specs.AtEnd.{IsAtEnd}
use Rattle.ddf_history_steps.specs.Kept.{SaysOne}
use Rattle.ddf_history_steps.specs.Steps.{IsCommit, KeepsStep, StandsReady, behind_next, with_next}
use Rattle.ddf_history_steps.proofs.Committing.{change_done, change_kept, issued_kept}
use Rattle.ddf_history_steps.proofs.StepsAsked.{IsNextStep, next_step}

module _ (group : List ℕ) {D : Type 0} (past : Past (groups group)) (disks : BayState D) (found : GroupValue) (recovery : Option ReadyStep) where
  -- what is ready, with these steps
  abbrev with_steps : List ReadyStep → ReadyValue
  with_steps steps = record { recovery = recovery; steps = steps }

  abbrev Stands : List ReadyStep → Type 0
  Stands steps = StandsReady group past disks found (with_steps steps)

  -- the next step may be written
  pub may : (steps : List ReadyStep) → Stands steps → MayWriteNext disks (with_steps steps)
  may steps ready = may_write_next disks found (with_steps steps) ready.at_end.holds ready.is_ready

  -- the change that it is of
  of_change : (one : ReadyStep) (others : List ReadyStep) (ready : Stands (one ∷ others)) → IsNextStep ready.timestamp found.config (seated found) one others
  of_change one others ready = next_step ready.timestamp ready.asked ready.can_be_asked found.config (seated found) one others ready.are_steps

  -- Before it is written and while it is, an image shows what it should.
  image_kept : (steps : List ReadyStep) (ready : Stands steps) (image : Image)
      → IsLeft disks.may_hold image ⊎ IsLeftChangingAll disks (next_slots (with_steps steps)) (may steps ready).seat (next_updates (with_steps steps)) image
      → IsKept (with_next group past (with_steps steps)) (scene_of disks.sizes image)
  image_kept [] ready image (inl before) = ready.at_end.all_kept image before
  image_kept [] ready image (inr changing) = ready.at_end.all_kept image (λ s l. changing.others s l (λ place at. absurd cc))
  image_kept (one ∷ others) ready image (inl before) =
      let is = of_change one others ready in
      issued_kept group past disks found ready.at_end (with_steps (one ∷ others)) ready.is_ready one others refl is.change ready.timestamp
      is.not_refused is.is_change is.step_is ready.time is.can_be_asked (may (one ∷ others) ready) image before
  image_kept (one ∷ others) ready image (inr changing) =
      let is = of_change one others ready in
      change_kept group past disks found ready.at_end (with_steps (one ∷ others)) ready.is_ready one others refl is.change ready.timestamp
      is.not_refused is.is_change is.step_is ready.time is.can_be_asked (may (one ∷ others) ready) image changing

  module _ (new : BayState D) (same_sizes : new.sizes ≡ disks.sizes) where
    -- what was written
    abbrev Written : (steps : List ReadyStep) → Stands steps → Type 0
    Written steps ready = AreChanged disks new (next_slots (with_steps steps)) (may steps ready).seat (next_updates (with_steps steps)) (length (next_slots (with_steps steps)))

    -- Without a step the group stands where it stood.
    stays_at_end : (ready : Stands []) → Written [] ready → IsLeft new.may_hold new.held → IsAtEnd group past new found
    stays_at_end ready written left =
        let end = ready.at_end in
        let same = λ (slot : ℕ). fun_ext (λ l. written.others slot l (λ place below at. absurd cc)) in
        record {
          all_kept = λ image leaves.
              rw same_sizes (end.all_kept image (λ s l. written.others_left s l (image s l) (λ place below at. absurd cc) (leaves s l)));
          is_last = end.is_last;
          is_settled = end.is_settled;
          holds = committed_holds disks new same_sizes found (with_steps []) end.holds ready.is_ready (may [] ready) written;
          under = subst (λ (sizes : List ℕ). HaveAnchors sizes found.newest) (sym same_sizes) end.under;
          same_slots = end.same_slots ∙ ap length (sym same_sizes);
          same_group = end.same_group;
          are_seated = end.are_seated;
          are_members = end.are_members;
          says_one = λ slot.
              subst (λ (sizes : List ℕ). SaysOne (slice_index sizes slot) (new.held slot)) (sym same_sizes)
              (subst (SaysOne (size_of disks slot)) (sym (same slot)) (end.says_one slot));
          is_left = left;
        }

    -- Behind the call the group stands at the end of its history again, with the other steps ready.
    pub stands_behind : (steps : List ReadyStep) (ready : Stands steps) → Written steps ready → IsLeft new.may_hold new.held
        → StandsReady group (behind_next group past (with_steps steps)) new (group_next found (with_steps steps)) (left_behind (with_steps steps))
    stands_behind [] ready written left = record {
      at_end = stays_at_end ready written left;
      is_ready = ready.is_ready;
      asked = ready.asked;
      can_be_asked = ready.can_be_asked;
      timestamp = ready.timestamp;
      time = ready.time;
      are_steps = ready.are_steps;
    }
    stands_behind (one ∷ others) ready written left =
        let is = of_change one others ready in
        let settled = ready.at_end.is_settled in
        let rise = subst SlotsRise (sym settled.are_seated) settled.slots_rise in
        let after = after_is found one rise ready.is_ready.follows.0 ready.is_ready.rewrites.0 in
        record {
          at_end = change_done group past disks found ready.at_end (with_steps (one ∷ others)) ready.is_ready one others refl is.change ready.timestamp
              is.not_refused is.is_change is.step_is ready.time is.can_be_asked (may (one ∷ others) ready) new same_sizes left written;
          is_ready = left_ready found (with_steps (one ∷ others)) ready.is_ready;
          asked = is.behind;
          can_be_asked = is.behind_can;
          timestamp = ready.timestamp;
          time = ready.time;
          are_steps = ap (steps_from ready.timestamp None is.behind one.step.config) after ∙ is.behind_are;
        }

    module _ (counts_now : (t : ℕ) (image : Image) → t ≤ new.moment → IsLeft new.may_hold image → new.left_since t image)
        (only_now : (image : Image) → disks.left_since disks.moment image → IsLeft disks.may_hold image) where
      -- What it may leave at its end it might have left before the step, or within it.
      each_left : (steps : List ReadyStep) (ready : Stands steps)
          → StopsLeave disks new (IsLeftChangingAll disks (next_slots (with_steps steps)) (may steps ready).seat (next_updates (with_steps steps)))
          → (image : Image) → IsLeft new.may_hold image
          → IsLeft disks.may_hold image ⊎ IsLeftChangingAll disks (next_slots (with_steps steps)) (may steps ready).seat (next_updates (with_steps steps)) image
      each_left steps ready moments image leaves = elim (moments.since disks.moment image (omega arith) (counts_now disks.moment image moments.later leaves)) [
        | inl before ↦ inl (only_now image before)
        | inr changing ↦ inr changing
      ]

      -- So the call keeps the history.
      pub commit_keeps : (steps : List ReadyStep) (ready : Stands steps) (done : Bool) → IsCommit disks new (with_steps steps) done
          → (new.tells_left → IsLeft new.may_hold new.held) → KeepsStep group disks new past (with_steps steps) done
      commit_keeps steps ready true is held = record {
        any_moment = stops_weaken (is.any_moment (may steps ready).seat (may steps ready).may_change) (λ image changing. image_kept steps ready image (inr changing));
        ends = λ tells. (stands_behind steps ready (is.changed refl (may steps ready).seat (may steps ready).may_change) (held tells)).at_end.all_kept;
      }
      commit_keeps steps ready false is held =
          let moments = is.any_moment (may steps ready).seat (may steps ready).may_change in
          record {
            any_moment = stops_weaken moments (λ image changing. image_kept steps ready image (inr changing));
            ends = λ tells image leaves. rw same_sizes (image_kept steps ready image (each_left steps ready moments image leaves));
          }
