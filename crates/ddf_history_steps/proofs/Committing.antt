-- The first step of a group that stands at the end of its history: at every moment whatever a stop leaves shows what it should, and behind it the
-- group stands at the end again.
use Rattle.std.proofs.Common.{◌≡◌, ℕ, ◌<◌, ◌^◌, true, List, ◌∷◌, length, Option, Some, None, refl, ap, sym, ◌∙◌, inl, subst}
use Rattle.std.specs.Prelude.{slice_get}
use Rattle.ddf_lemmas.proofs.Lists.{in_map}
use Rattle.ddf_bay.specs.Sectors.{Image, IsLeft}
use Rattle.ddf_bay.specs.State.{BayState}
use Rattle.ddf_config.specs.Configuration.{Configuration}
use Rattle.ddf_plan.specs.declared.change.Change.{Change}
use Rattle.ddf_plan.specs.Same.{is_step}
use Rattle.ddf_update.specs.declared.prepared.Prepared.{Prepared}
use Rattle.ddf_update.specs.Changes.{AreChanged, IsLeftChangingAll, MayChangeAll}
use Rattle.ddf_update.specs.Group.{LieOnSlots}
use Rattle.ddf_view.specs.View.{View, view_of}
use Rattle.ddf_rewrite.specs.Before.{Before, before}
use Rattle.ddf_history.specs.Groups.{groups}
use Rattle.ddf_history.specs.Issued.{Past, acknowledge, issue}
use Rattle.ddf_history.specs.Promise.{IsKept}
use Rattle.ddf_history.specs.Scenes.{scene_of}
use Rattle.ddf_seats.specs.declared.seated.Seated.{Seated}
use Rattle.ddf_steps.specs.Asked.{CanBeAsked}
use Rattle.ddf_recovery.specs.Committed.{IsReadyFor, MayWriteNext, group_next, next_slots, next_updates}
use Rattle.ddf_seats.specs.Group.{GroupValue}
use Rattle.ddf_assembly.specs.Reading.{HaveAnchors}
use Rattle.ddf_steps.specs.Ready.{ReadyStep, group_after}
use Rattle.ddf_recovery.specs.Ready.{ReadyValue}
use Rattle.ddf_steps.specs.Refusing.{step_refusal}
use Rattle.ddf_seats.specs.Seated.{seated, slots_in, views_in, levelled}
use Rattle.ddf_steps.specs.Steps.{Step, config_after, in_order, step_of}
use Rattle.ddf_seats.specs.Changing.{SlotsRise}
use Rattle.ddf_recovery.proofs.Committed.{next_lies}
use Rattle.ddf_recovery.proofs.CommittedAfter.{after_is, committed_anchored, committed_holds, left_ready}
use Rattle.ddf_history.proofs.Following.{changes_follow}
use Rattle.ddf_history_steps.specs.Kept.{is_slot}
use Rattle.ddf_history_steps.specs.AtEnd.{IsAtEnd, IsMember}
use Rattle.ddf_history_steps.proofs.Changing.{acknowledged_last}
use Rattle.ddf_history_steps.proofs.ChangingCopies.{changed_views}
use Rattle.ddf_history_steps.proofs.CommittingScenes.{all_say, changed_written, written_shows}
use Rattle.ddf_history_steps.proofs.CommittingSeats.{copy_in, written_at}
use Rattle.ddf_history_steps.proofs.CommittingStep.{all_written, in_place, new_at, new_member, step_acknowledged, step_issued, step_kept}
use Rattle.ddf_history_steps.proofs.Stops.{changed_left, stop_writes, unwritten_left}
use Rattle.ddf_history_steps.proofs.RecoveringLossEnd.{slots_same}

-- a step with its updates, and what is left with it
abbrev ReadyWith : Option ReadyStep → Step → List Prepared → List ReadyStep → ReadyValue
ReadyWith recovery step updates others = record { recovery = recovery; steps = record { step = step; updates = updates } ∷ others }

module _ (group : List ℕ) {D : Type 0} (past : Past (groups group)) (disks : BayState D) (found : GroupValue) (end : IsAtEnd group past disks found)
    (timestamp : ℕ) (time : timestamp < 2 ^ 32) (change : Change) (asked : CanBeAsked change)
    (not_refused : step_refusal timestamp None found.config (seated found) change ≡ None) (is_change : is_step found.config change ≡ true) where
  abbrev next : Configuration
  next = config_after found.config change

  abbrev led : Before
  led = before (views_in (seated found))

  abbrev step : Step
  step = step_of timestamp found.config (seated found) change

  abbrev slots : List ℕ
  slots = slots_in step.disks

  abbrev issued_past : Past (groups group)
  issued_past = issue past next

  abbrev number : ℕ
  number = length past.changes.issued

  -- what the new copies show
  abbrev new : ℕ → View
  new = changed_views (copy_in found.newest) led next timestamp

  module _ (recovery : Option ReadyStep) (updates : List Prepared) (others : List ReadyStep)
      (is_ready : IsReadyFor found (ReadyWith recovery step updates others)) (may : MayWriteNext disks (ReadyWith recovery step updates others)) where
    abbrev ready : ReadyValue
    ready = ReadyWith recovery step updates others

    rises : found.config.sequence < next.sequence
    rises = is_ready.rises.0

    -- Each disk is written in its place.
    place_is : in_order step.disks ≡ step.disks
    place_is = in_place group past disks found end timestamp time change asked not_refused is_change rises

    -- Its updates lie on their slots.
    lies : LieOnSlots disks.sizes slots updates
    lies = subst (λ (all : List Seated). LieOnSlots disks.sizes (slots_in all) updates) place_is (next_lies disks.sizes found end.under ready is_ready)

    may_change : MayChangeAll disks slots may.seat updates
    may_change = subst (λ (all : List Seated). MayChangeAll disks (slots_in all) may.seat updates) place_is may.may_change

    news : (place slot : ℕ) → slice_get slots place ≡ Some slot → new slot ≡ view_of (may.seat place).new
    news place slot at =
        let made = written_at (seated found) led next timestamp place slot at in
        new_at group past disks found end timestamp time change asked not_refused is_change rises place slot made.0 made.1 made.2
        ∙ sym (ap view_of (may.news place made.0 (ap (λ (all : List Seated). slice_get all place) place_is ∙ made.1)))

    -- Before it is written the change may be issued.
    issued : (image : Image) → IsLeft disks.may_hold image → IsKept issued_past (scene_of disks.sizes image)
    issued image left = step_issued group past disks found end timestamp time change asked not_refused is_change rises image left

    -- While it is written a stop leaves what it should.
    kept : (image : Image) → IsLeftChangingAll disks slots may.seat updates image → IsKept issued_past (scene_of disks.sizes image)
    kept image left =
        let start = unwritten_left disks slots may.seat updates image (λ s l here. end.is_left s l) left in
        step_kept group past disks found end timestamp time change asked not_refused is_change rises image start (scene_of disks.sizes image)
        (stop_writes disks slots may.seat updates image lies.are_slots lies.counted may_change (λ place slot at. end.says_one slot) left new news)

    -- ---- behind it

    module _ (now : BayState D) (same_sizes : now.sizes ≡ disks.sizes)
        (changed : AreChanged disks now slots may.seat updates (length slots)) where
      -- Whatever a stop leaves then shows what it should, and the change is acknowledged.
      all_kept : (image : Image) → IsLeft now.may_hold image → IsKept (acknowledge issued_past number) (scene_of now.sizes image)
      all_kept image left =
          step_acknowledged group past disks found end timestamp time change asked not_refused is_change rises image
          (changed_left disks now slots may.seat updates image new news lies.are_slots lies.counted same_sizes changed left (λ s l here. end.is_left s l))
          (scene_of now.sizes image)
          (changed_written disks now slots may.seat updates lies.are_slots lies.counted same_sizes changed image left new news)
          (written_shows disks now slots may.seat updates lies.are_slots lies.counted same_sizes changed image left new news)

      -- Each disk of the group then is a current member.
      members : (place : ℕ) (disk : Seated) → slice_get (seated (group_after found step)) place ≡ Some disk → IsMember next disk
      members place disk at =
          let rise = subst SlotsRise (sym end.is_settled.are_seated) end.is_settled.slots_rise in
          let after = after_is found (record { step = step; updates = updates }) rise is_ready.follows.0 is_ready.rewrites.0 in
          let made = in_map levelled step.disks place disk (sym (ap (λ (all : List Seated). slice_get all place) after) ∙ at) in
          let is = new_member group past disks found end timestamp time change asked not_refused is_change rises place made.0 made.1 in
          subst (IsMember next) made.2 (record { same_reference = is.same_reference; is_current = is.is_current })

      -- The group stands at the end of its history again.
      done : IsLeft now.may_hold now.held → IsAtEnd group (acknowledge issued_past number) now (group_after found step)
      done left = record {
        all_kept = all_kept;
        is_last = acknowledged_last group past (scene_of disks.sizes disks.held) (end.all_kept disks.held end.is_left) past.changes.acked found.config next
            end.is_last (changes_follow group found.config change next.sequence rises) (inl refl);
        is_settled = (left_ready found ready is_ready).is_settled;
        holds = committed_holds disks now same_sizes found ready end.holds is_ready may
            (subst (λ (all : List Seated). AreChanged disks now (slots_in all) may.seat updates (length (slots_in all))) (sym place_is) changed);
        under = subst (λ (sizes : List ℕ). HaveAnchors sizes (group_after found step).newest) (sym same_sizes)
            (committed_anchored disks.sizes found ready is_ready end.under);
        same_slots = end.same_slots ∙ ap length (sym same_sizes);
        same_group = end.same_group;
        are_seated = λ slot here current.
            ap (λ (all : List ℕ). is_slot all slot) (slots_same step.disks)
            ∙ all_written group past disks found end timestamp time change asked not_refused is_change rises slot here current;
        are_members = members;
        says_one = all_say disks now slots may.seat updates lies.are_slots lies.counted same_sizes changed now.held left new news end.says_one;
        is_left = left;
      }

    -- So it is with its disks in the order in which they are written.
    pub order_kept : (image : Image) → IsLeftChangingAll disks (next_slots ready) may.seat updates image → IsKept issued_past (scene_of disks.sizes image)
    order_kept image left = kept image (subst (λ (all : List Seated). IsLeftChangingAll disks (slots_in all) may.seat updates image) place_is left)

    pub order_done : (now : BayState D) → now.sizes ≡ disks.sizes → AreChanged disks now (next_slots ready) may.seat updates (length (next_slots ready))
        → IsLeft now.may_hold now.held → IsAtEnd group (acknowledge issued_past number) now (group_after found step)
    order_done now same_sizes changed left =
        done now same_sizes (subst (λ (all : List Seated). AreChanged disks now (slots_in all) may.seat updates (length (slots_in all))) place_is changed) left

-- ---- the first step of what was readied

module _ (group : List ℕ) {D : Type 0} (past : Past (groups group)) (disks : BayState D) (found : GroupValue) (end : IsAtEnd group past disks found)
    (ready : ReadyValue) (is_ready : IsReadyFor found ready) (one : ReadyStep) (others : List ReadyStep) (first : ready.steps ≡ one ∷ others)
    (change : Change) (timestamp : ℕ) (not_refused : step_refusal timestamp None found.config (seated found) change ≡ None)
    (is_change : is_step found.config change ≡ true) (step_is : one.step ≡ step_of timestamp found.config (seated found) change)
    (time : timestamp < 2 ^ 32) (asked : CanBeAsked change) (may : MayWriteNext disks ready) where
  abbrev by_change : Step
  by_change = step_of timestamp found.config (seated found) change

  -- The steps begin with the change's.
  begins : ReadyWith ready.recovery by_change one.updates others ≡ ready
  begins =
      ap (λ (step : Step). ReadyWith ready.recovery step one.updates others) (sym step_is)
      ∙ ap (λ (steps : List ReadyStep). record { recovery = ready.recovery; steps = steps }) (sym first)

  -- What holds where the steps begin with it holds of what is ready.
  by_first : (P : (r : ReadyValue) → IsReadyFor found r → MayWriteNext disks r → Type 0)
      → ((is : IsReadyFor found (ReadyWith ready.recovery by_change one.updates others))
      (can : MayWriteNext disks (ReadyWith ready.recovery by_change one.updates others))
      → P (ReadyWith ready.recovery by_change one.updates others) is can)
      → P ready is_ready may
  by_first P each =
      subst (λ (r : ReadyValue). (is : IsReadyFor found r) (can : MayWriteNext disks r) → P r is can) begins each is_ready may

  -- Before the change is written it may be issued.
  pub issued_kept : (image : Image) → IsLeft disks.may_hold image → IsKept (issue past one.step.config) (scene_of disks.sizes image)
  issued_kept image left =
      subst (λ (step : Step). IsKept (issue past step.config) (scene_of disks.sizes image)) (sym step_is)
      (by_first (λ r is can. IsKept (issue past by_change.config) (scene_of disks.sizes image))
      (λ is can. issued group past disks found end timestamp time change asked not_refused is_change ready.recovery one.updates others is can image left))

  -- While it is written, whatever a stop leaves shows what it should.
  pub change_kept : (image : Image) → IsLeftChangingAll disks (next_slots ready) may.seat (next_updates ready) image
      → IsKept (issue past one.step.config) (scene_of disks.sizes image)
  change_kept image =
      subst
      (λ (step : Step). IsLeftChangingAll disks (next_slots ready) may.seat (next_updates ready) image → IsKept (issue past step.config) (scene_of disks.sizes image))
      (sym step_is)
      (by_first
      (λ r is can. IsLeftChangingAll disks (next_slots r) can.seat (next_updates r) image → IsKept (issue past by_change.config) (scene_of disks.sizes image))
      (λ is can. order_kept group past disks found end timestamp time change asked not_refused is_change ready.recovery one.updates others is can image))

  -- Once it is written, the group stands at the end of its history, of which the change is the last and acknowledged.
  pub change_done : (now : BayState D) → now.sizes ≡ disks.sizes → IsLeft now.may_hold now.held
      → AreChanged disks now (next_slots ready) may.seat (next_updates ready) (length (next_slots ready))
      → IsAtEnd group (acknowledge (issue past one.step.config) (length past.changes.issued)) now (group_next found ready)
  change_done now same_sizes left =
      subst
      (λ (step : Step). AreChanged disks now (next_slots ready) may.seat (next_updates ready) (length (next_slots ready))
      → IsAtEnd group (acknowledge (issue past step.config) (length past.changes.issued)) now (group_next found ready))
      (sym step_is)
      (by_first
      (λ r is can. AreChanged disks now (next_slots r) can.seat (next_updates r) (length (next_slots r))
      → IsAtEnd group (acknowledge (issue past by_change.config) (length past.changes.issued)) now (group_next found r))
      (λ is can changed.
      order_done group past disks found end timestamp time change asked not_refused is_change ready.recovery one.updates others is can now same_sizes changed left))
