-- A call that takes a group keeps its history: at every moment since its entry, and at its end.
use Rattle.std.proofs.Common.{◌≡◌, ◌≢◌, ◌⊎◌, ℕ, ◌≤◌, Bool, true, false, List, [], ◌∷◌, ◌++◌, length, map, Option, Some, None, Ok, inl, inr, refl, ap, sym, ◌∙◌, subst, append-nil, arith}
use Rattle.std.specs.Prelude.{slice_get}
use Rattle.std.specs.List.{AllByRecursion}
use Rattle.ddf_bay.specs.Moments.{StopsLeave}
use Rattle.ddf_bay.specs.ReadsOnly.{ReadsOnly}
use Rattle.ddf_bay.specs.Sectors.{Image, IsLeft}
use Rattle.ddf_bay.specs.State.{BayState}
use Rattle.ddf_bay.proofs.Steps.{left_keeps, stops_weaken}
use Rattle.ddf_config.specs.Configuration.{Configuration}
use Rattle.ddf_config.specs.Seats.{SeatsFit}
use Rattle.ddf_plan.specs.declared.change.Change.{Change}
use Rattle.ddf_update.specs.Changes.{AreChanged, IsLeftChangingAll}
use Rattle.ddf_history.specs.Groups.{groups}
use Rattle.ddf_history.specs.Issued.{Past, acknowledge, issue}
use Rattle.ddf_history.specs.Promise.{IsKept}
use Rattle.ddf_history.specs.Scenes.{scene_of}
use Rattle.ddf_steps.specs.Asked.{CanBeAsked}
use Rattle.ddf_steps.specs.Committed.{AreSettled, LeavesSynced, slots_of, synced}
use Rattle.ddf_recovery.specs.Committed.{IsReadyFor, MayRecover, MayWriteNext, WasReadied, group_recovered, next_slots, next_updates, recovery_slots, recovery_updates}
use Rattle.ddf_seats.specs.Group.{GroupValue}
use Rattle.ddf_assembly.specs.Group.{group_of}
use Rattle.ddf_assembly.specs.Held.{AreHeldOn, StandUnder}
use Rattle.ddf_assembly.specs.Reading.{HaveAnchors}
use Rattle.ddf_steps.specs.Ready.{ReadyStep}
use Rattle.ddf_recovery.specs.Ready.{ReadyValue, all_ready}
use Rattle.ddf_assembly.specs.Slots.{newest_from}
use Rattle.ddf_recovery.proofs.RecoveredGroup.{recovered_ready}
use Rattle.ddf_history_steps.specs.Going.{Goes, IsAdmitted, IsOver, IsUnderway, KeepsHistory, changes_in}
use Rattle.ddf_history_steps.specs.Kept.{AreAllKept, ReadsTrue, is_read}
use Rattle.ddf_history_steps.specs.AtEnd.{IsAtEnd}
use Rattle.ddf_history_steps.proofs.Committing as committing
use Rattle.ddf_history_steps.proofs.CommittingFirst.{IsFirstStep, first_step, no_change}
use Rattle.ddf_history_steps.proofs.CommittingGoes.{change_goes, change_over, changes_alone, changes_behind}
use Rattle.ddf_history_steps.proofs.Recovering.{begun_with, recovery_changes, recovery_done, recovery_goes, recovery_goes_on, recovery_kept, recovery_last, recovery_over, recovery_past, synced_kept}

-- A call that only reads keeps each history, with no change of it.
pub only_reads : (group : List ℕ) {D : Type 0} (old new : BayState D) (past : Past (groups group)) (left : List Bool) (found : GroupValue) (changes : List Configuration)
    → AreAllKept group past old → ReadsOnly old new → KeepsHistory group old new past left found changes false
only_reads group old new past left found changes kept reads = record {
  any_moment = stops_weaken reads.any_moment (λ image was. (past, inl refl, kept image was));
  ends = λ told. (past, inl refl, λ image was. rw reads.same_sizes (kept image (left_keeps old.may_hold new.may_hold image reads.keeps was)));
}

-- The step of the change that was asked, where there is one.
record HasStep (timestamp : ℕ) (group : GroupValue) (one : ReadyStep) (others : List ReadyStep) : Type 0 where
  change : Change
  can_be_asked : CanBeAsked change
  is_first : IsFirstStep timestamp group change one others

has_step : (found : GroupValue) (timestamp : ℕ) (ready : ReadyValue) (asked : List Change) → AllByRecursion CanBeAsked asked → length asked ≤ 1 → WasReadied found asked timestamp ready
    → (one : ReadyStep) (others : List ReadyStep) → ready.steps ≡ one ∷ others → HasStep timestamp (group_recovered found ready.recovery) one others
has_step found timestamp ready [] can few was one others first = let none : [] ≡ one ∷ others = sym (no_change found timestamp ready was) ∙ first in absurd cc
has_step found timestamp ready (change ∷ []) can few was one others first = record { change = change; can_be_asked = can.0; is_first = first_step found timestamp ready change was one others first }
has_step found timestamp ready (change ∷ other ∷ more) can few was one others first = absurd (omega (arith, few))

-- In a list of nothing no number stands.
no_place : (slots : List ℕ) → slots ≡ [] → (place s : ℕ) → slice_get slots place ≢ Some s
no_place [] none place s at = absurd cc
no_place (slot ∷ slots) none place s at = absurd cc

-- Without a step no slot is written.
none_next : (ready : ReadyValue) → ready.steps ≡ [] → next_slots ready ≡ []
none_next ready none = ap (λ (steps : List ReadyStep). next_slots (record ready { steps = steps })) none

module _ {group : List ℕ} {D : Type 0} (past : Past (groups group)) (state : BayState D) (left : List Bool) (named : Option (List ℕ)) (found : GroupValue)
    (kept : AreAllKept group past state) (admitted : IsAdmitted group past state left found) (reads : ReadsTrue state)
    (every_slot : length left ≡ length state.sizes) (is : group_of (newest_from state 0 left) named ≡ Ok found) (same_group : found.config.group ≡ group)
    (held : AreHeldOn state found.newest) (stand : StandUnder state found.newest) (under : HaveAnchors state.sizes found.newest)
    (fit : SeatsFit state.sizes found.seats)
    (asked : List Change) (timestamp : ℕ) (ready : ReadyValue) (was : WasReadied found asked timestamp ready) (may : MayRecover state found ready) where
  -- the list once the recovery is issued, and once it is acknowledged
  abbrev during : Past (groups group)
  during = recovery_past past state left named found kept admitted reads every_slot is same_group held stand under fit asked timestamp ready was may

  abbrev behind : Past (groups group)
  behind = acknowledge during (recovery_last past state left named found kept admitted reads every_slot is same_group held stand under fit asked timestamp ready was may)

  -- what the recovery issues, and what the call does
  abbrev first_changes : List Configuration
  first_changes = recovery_changes past state left named found kept admitted reads every_slot is same_group held stand under fit asked timestamp ready was may

  abbrev changes : List Configuration
  changes = changes_in found (map (λ (one : ReadyStep). one.step) (all_ready ready))

  -- An image shows what it should, however far the call came.
  abbrev Shows : Image → Type 0
  Shows image = (now : Past (groups group)) × Goes group past (is_read left) found changes now × IsKept now (scene_of state.sizes image)

  -- The call's changes are the recovery's, and then that of the next step, where there is one.
  with_next : (one : ReadyStep) (others : List ReadyStep) → ready.steps ≡ one ∷ others → others ≡ [] → changes ≡ first_changes ++ one.step.config ∷ []
  with_next one others first none = changes_behind found asked timestamp ready was one (first ∙ ap (λ (rest : List ReadyStep). one ∷ rest) none)

  -- How far it came while it recovers, and behind that.
  goes_by : (steps : List ReadyStep) → ready.steps ≡ steps → (now : Past (groups group)) → ((later : List Configuration) → IsUnderway group past (is_read left) found (first_changes ++ later) now)
      → AllByRecursion CanBeAsked asked → length asked ≤ 1 → IsUnderway group past (is_read left) found changes now
  goes_by [] none now goes can few =
      subst (λ (all : List Configuration). IsUnderway group past (is_read left) found all now)
      (append-nil first_changes ∙ sym (changes_alone found asked timestamp ready was none)) (goes [])
  goes_by (one ∷ others) first now goes can few =
      let step = has_step found timestamp ready asked can few was one others first in
      subst (λ (all : List Configuration). IsUnderway group past (is_read left) found all now) (sym (with_next one others first step.is_first.none_behind)) (goes (one.step.config ∷ []))

  module _ (can : AllByRecursion CanBeAsked asked) (few : length asked ≤ 1) where
    during_goes : Goes group past (is_read left) found changes during
    during_goes = inr (goes_by ready.steps refl during (recovery_goes past state left named found kept admitted reads every_slot is same_group held stand under fit asked timestamp ready was may) can few)

    behind_goes : Goes group past (is_read left) found changes behind
    behind_goes = inr (goes_by ready.steps refl behind (recovery_goes_on past state left named found kept admitted reads every_slot is same_group held stand under fit asked timestamp ready was may) can few)

    -- ---- the recovery

    module _ (middle : BayState D) (same_sizes : middle.sizes ≡ state.sizes)
        (moments : StopsLeave state middle (λ image. IsLeft state.may_hold image
        ⊎ IsLeftChangingAll (synced state (slots_of found.seats)) (recovery_slots ready) may.seat (recovery_updates ready) image)) where
      -- Whatever a stop leaves while the group is recovered shows what it should.
      pub recovery_moments : StopsLeave state middle Shows
      recovery_moments = stops_weaken moments (λ image one. elim one [
        | inl before ↦ (past, inl refl, kept image before)
        | inr changing ↦ (during, during_goes, recovery_kept past state left named found kept admitted reads every_slot is same_group held stand under fit asked timestamp ready was may image changing)
      ])

      -- A recovery that failed keeps the history.
      pub recovery_failed : LeavesSynced state middle (slots_of found.seats) (recovery_slots ready) may.seat (recovery_updates ready)
          → KeepsHistory group state middle past left found changes false
      recovery_failed ends = record {
        any_moment = recovery_moments;
        ends = λ told_left. elim ends [
          | inl keeps ↦ (past, inl refl, λ image was_left. rw same_sizes (kept image (left_keeps state.may_hold middle.may_hold image keeps was_left)))
          | inr each ↦ (
            during,
            during_goes,
            λ image was_left. rw same_sizes (elim (each image was_left) [
              | inl before ↦ synced_kept past state left named found kept admitted reads every_slot is same_group held stand under fit asked timestamp ready was may image before
              | inr changing ↦ recovery_kept past state left named found kept admitted reads every_slot is same_group held stand under fit asked timestamp ready was may image changing
            ]),
          )
        ];
      }

      -- ---- the change behind it

      module _ (changed : AreChanged (synced state (slots_of found.seats)) middle (recovery_slots ready) may.seat (recovery_updates ready) (length (recovery_slots ready)))
          (settled : AreSettled middle found.seats (length found.seats)) (may_write : MayWriteNext middle (record ready { recovery = None })) where
        abbrev next_ready : ReadyValue
        next_ready = record ready { recovery = None }

        is_ready : IsReadyFor (group_recovered found ready.recovery) next_ready
        is_ready = recovered_ready found asked timestamp ready was

        -- the group is at the end of the history, where the disks as they read are one of the images
        at_end : IsLeft middle.may_hold middle.held → IsAtEnd group behind middle (group_recovered found ready.recovery)
        at_end mid_left = recovery_done past state left named found kept admitted reads every_slot is same_group held stand under fit asked timestamp ready was may middle same_sizes mid_left changed settled

        abbrev Changing : Image → Type 0
        Changing image = IsLeftChangingAll middle (next_slots next_ready) may_write.seat (next_updates next_ready) image

        -- the list while the next step is written
        abbrev past_by : (steps : List ReadyStep) → Past (groups group)
        past_by [] = behind
        past_by (one ∷ others) = issue behind one.step.config

        next_goes : (steps : List ReadyStep) → ready.steps ≡ steps → Goes group past (is_read left) found changes (past_by steps)
        next_goes [] none = behind_goes
        next_goes (one ∷ others) first =
            let step = has_step found timestamp ready asked can few was one others first in
            let begun = begun_with past state left named found kept admitted reads every_slot is same_group held stand under fit asked timestamp ready was may in
            inr (subst (λ (all : List Configuration). IsUnderway group past (is_read left) found all (issue behind one.step.config)) (sym (with_next one others first step.is_first.none_behind))
            (change_goes group past (is_read left) found begun.0 begun.1 first_changes one.step.config (recovery_last past state left named found kept admitted reads every_slot is same_group held stand under fit asked timestamp ready was may) (inr (omega arith)) (omega arith)))

        -- Each image that a stop may leave then shows what it should.
        next_kept : IsLeft middle.may_hold middle.held → (steps : List ReadyStep) → ready.steps ≡ steps → (image : Image) → IsLeft middle.may_hold image ⊎ Changing image
            → IsKept (past_by steps) (scene_of middle.sizes image)
        next_kept mid_left [] none image (inl before) = (at_end mid_left).all_kept image before
        next_kept mid_left [] none image (inr changing) = (at_end mid_left).all_kept image (λ s l. changing.others s l (λ place at. no_place (next_slots next_ready) (none_next next_ready none) place s at))
        next_kept mid_left (one ∷ others) first image (inl before) =
            let step = has_step found timestamp ready asked can few was one others first in
            committing.issued_kept group behind middle (group_recovered found ready.recovery) (at_end mid_left) next_ready is_ready one others first step.change timestamp
            step.is_first.not_refused step.is_first.is_change step.is_first.step_is was.time step.can_be_asked may_write image before
        next_kept mid_left (one ∷ others) first image (inr changing) =
            let step = has_step found timestamp ready asked can few was one others first in
            committing.change_kept group behind middle (group_recovered found ready.recovery) (at_end mid_left) next_ready is_ready one others first step.change timestamp
            step.is_first.not_refused step.is_first.is_change step.is_first.step_is was.time step.can_be_asked may_write image changing

        module _ (new : BayState D) (new_sizes : new.sizes ≡ middle.sizes) (new_moments : StopsLeave middle new Changing)
            (told : (t : ℕ) (image : Image) → new.left_since t image → IsLeft middle.may_hold middle.held)
            (counts_now : (t : ℕ) (image : Image) → t ≤ new.moment → IsLeft new.may_hold image → new.left_since t image)
            (only_now : (image : Image) → middle.left_since middle.moment image → IsLeft middle.may_hold image) where
          -- Whatever a stop leaves while the call goes on shows what it should.
          pub commit_moments : StopsLeave state new Shows
          commit_moments = record {
            later = let one = moments.later in let other = new_moments.later in omega (arith, one, other);
            since = λ t image le was_left. elim (new_moments.since t image (let one = moments.later in omega (arith, le, one)) was_left) [
              | inl before ↦ recovery_moments.since t image le before
              | inr changing ↦ inr (
                past_by ready.steps,
                next_goes ready.steps refl,
                subst (λ (sizes : List ℕ). IsKept (past_by ready.steps) (scene_of sizes image)) same_sizes (next_kept (told t image was_left) ready.steps refl image (inr changing)),
              )
            ];
          }

          -- What it may leave at its end it might have left before the step, or within it.
          each_left : (image : Image) → IsLeft new.may_hold image → IsLeft middle.may_hold image ⊎ Changing image
          each_left image was_left = elim (new_moments.since middle.moment image (omega arith) (counts_now middle.moment image new_moments.later was_left)) [
            | inl before ↦ inl (only_now image before)
            | inr changing ↦ inr changing
          ]

          told_now : (image : Image) → IsLeft new.may_hold image → IsLeft middle.may_hold middle.held
          told_now image was_left = told new.moment image (counts_now new.moment image (omega arith) was_left)

          -- A step that failed keeps the history.
          pub commit_failed : KeepsHistory group state new past left found changes false
          commit_failed = record {
            any_moment = commit_moments;
            ends = λ told_left. (past_by ready.steps, next_goes ready.steps refl, λ image was_left. rw new_sizes (next_kept (told_now image was_left) ready.steps refl image (each_left image was_left)));
          }

          -- ---- the end

          module _ (written : AreChanged middle new (next_slots next_ready) may_write.seat (next_updates next_ready) (length (next_slots next_ready)))
              (new_told : (image : Image) → IsLeft new.may_hold image → IsLeft new.may_hold new.held) where
            abbrev end_by : (steps : List ReadyStep) → Past (groups group)
            end_by [] = behind
            end_by (one ∷ others) = acknowledge (issue behind one.step.config) (length behind.changes.issued)

            end_over : (steps : List ReadyStep) → ready.steps ≡ steps → IsOver group past (is_read left) found changes (end_by steps)
            end_over [] none =
                subst (λ (all : List Configuration). IsOver group past (is_read left) found all behind) (sym (changes_alone found asked timestamp ready was none)) (recovery_over past state left named found kept admitted reads every_slot is same_group held stand under fit asked timestamp ready was may)
            end_over (one ∷ others) first =
                let step = has_step found timestamp ready asked can few was one others first in
                let begun = begun_with past state left named found kept admitted reads every_slot is same_group held stand under fit asked timestamp ready was may in
                subst (λ (all : List Configuration). IsOver group past (is_read left) found all (acknowledge (issue behind one.step.config) (length behind.changes.issued)))
                (sym (with_next one others first step.is_first.none_behind))
                (change_over group past (is_read left) found begun.0 begun.1 first_changes one.step.config (recovery_last past state left named found kept admitted reads every_slot is same_group held stand under fit asked timestamp ready was may))

            end_kept : (steps : List ReadyStep) → ready.steps ≡ steps → (image : Image) → IsLeft new.may_hold image → IsKept (end_by steps) (scene_of new.sizes image)
            end_kept [] none image was_left =
                rw new_sizes ((at_end (told_now image was_left)).all_kept image
                (λ s l. written.others_left s l (image s l) (λ place below at. no_place (next_slots next_ready) (none_next next_ready none) place s at) (was_left s l)))
            end_kept (one ∷ others) first image was_left =
                let step = has_step found timestamp ready asked can few was one others first in
                (committing.change_done group behind middle (group_recovered found ready.recovery) (at_end (told_now image was_left)) next_ready is_ready one others first step.change timestamp
                step.is_first.not_refused step.is_first.is_change step.is_first.step_is was.time step.can_be_asked may_write new new_sizes (new_told image was_left) written).all_kept image was_left

            -- A call that was done keeps the history, and all its changes are acknowledged.
            pub call_done : KeepsHistory group state new past left found changes true
            call_done = record {
              any_moment = commit_moments;
              ends = λ told_left. (end_by ready.steps, end_over ready.steps refl, end_kept ready.steps refl);
            }
