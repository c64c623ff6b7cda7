-- The steps of a group, written to disks that the group was read from.
use Rattle.std.proofs.Common.{◌≡◌, ℕ, ◌<◌, ◌≤◌, Bool, true, false, List, [], ◌∷◌, ◌++◌, length, map, Option, Some, None, Result, Ok, Err, refl, sym, ap, subst, ◌∙◌, arith, inl, inr, if◌then◌else◌}
use Rattle.std.proofs.Math.Path.{fun_ext}
use Rattle.std.proofs.lemmas.Option.{slice_get_within}
use Rattle.std.specs.Prelude.{IfSome, option_to_list, slice_get, slice_index}
use Rattle.ddf_lemmas.proofs.Lists.{in_map, mapped_at, some_at_place}
use Rattle.ddf_bay.specs.State.{BayState}
use Rattle.ddf_bay.specs.Sectors.{Image}
use Rattle.ddf_bay.specs.Moments.{Costs, IsSettled}
use Rattle.ddf_config.specs.declared.refusal.Refusal.{Refusal}
use Rattle.ddf_config.specs.Configuration.{Configuration}
use Rattle.ddf_copy.specs.declared.copy.DiskCopy.{DiskCopy}
use Rattle.ddf_plan.specs.declared.change.Change.{Change}
use Rattle.ddf_plan.specs.Same.{is_step}
use Rattle.ddf_update.specs.Changes.{AreChanged, MayChangeAll, SlotChange, anchor_after}
use Rattle.ddf_update.specs.Prepared.{all_sectors}
use Rattle.ddf_update.specs.Update.{AreBoth}
use Rattle.ddf_seats.specs.declared.seated.Seated.{Seated}
use Rattle.ddf_recovery.specs.Committed.{MayRecover, MayWriteNext, group_next, group_recovered, next_slots, next_updates, slots_written, updates_written}
use Rattle.ddf_steps.specs.Committed.{slots_of, synced}
use Rattle.ddf_seats.specs.Group.{GroupValue, floor_of}
use Rattle.ddf_steps.specs.Ready.{ReadyStep, steps_from}
use Rattle.ddf_steps.specs.Refusing.{step_refusal}
use Rattle.ddf_seats.specs.Seated.{slots_in}
use Rattle.ddf_steps.specs.Steps.{Step, in_order, step_of}
use Rattle.ddf_steps.specs.Trying.{AreFollowing, Follows}
use Rattle.ddf_steps.proofs.CommittedLevels.{slot_or_none}
use Rattle.ddf_steps.proofs.Ordered.{order_at, order_from}
use Rattle.ddf_group_commands.specs.Change.{last_sequence}
use Rattle.ddf_group_commands.specs.Written.{AreWritten, HasCopy, IsWritten}
use Rattle.ddf_history_steps.proofs.Placed.{got_floor}

abbrev pub steps_in : List ReadyStep → List Step
steps_in steps = map (λ one. one.step) steps

-- ---- how many steps one change is

few_by : (refusal : Option Refusal) (is : Bool) (step : Step) (steps : List Step)
    → ◌≡◌ {A = Result (List Step) Refusal} (elim refusal [ Some one ↦ Err one | None ↦ if is then Ok (step ∷ []) else Ok [] ]) (Ok steps) → length steps ≤ 1
few_by (Some one) is step steps h = absurd cc
few_by None true step steps h = let same : step ∷ [] ≡ steps = cc in subst (λ (all : List Step). length all ≤ 1) same (omega arith)
few_by None false step steps h = let same : [] ≡ steps = cc in subst (λ (all : List Step). length all ≤ 1) same (omega arith)

-- One change is one step at the most, and none is none.
pub few_steps : (timestamp : ℕ) (changes : List Change) (config : Configuration) (disks : List Seated) (steps : List Step) → length changes ≤ 1
    → steps_from timestamp None changes config disks ≡ Ok steps → length steps ≤ 1
few_steps timestamp [] config disks steps few h = let same : [] ≡ steps = cc in subst (λ (all : List Step). length all ≤ 1) same (omega arith)
few_steps timestamp (change ∷ []) config disks steps few h =
    few_by (step_refusal timestamp None config disks change) (is_step config change) (step_of timestamp config disks change) steps h
few_steps timestamp (change ∷ other ∷ others) config disks steps few h = absurd (omega (arith, few))

-- ---- what is written

module _ {D : Type 0} (old new : BayState D) (disks : List Seated) (one : ReadyStep) (follows : Follows disks one) (seat : ℕ → SlotChange)
    (news : (place : ℕ) (disk : Seated) → slice_get (in_order one.step.disks) place ≡ Some disk → (seat place).new ≡ disk.copy)
    (may : MayChangeAll old (slots_in (in_order one.step.disks)) seat one.updates)
    (changed : AreChanged old new (slots_in (in_order one.step.disks)) seat one.updates (length (slots_in (in_order one.step.disks)))) where
  -- the disk at a place has its copy
  copy_of : (place : ℕ) (disk : Seated) → slice_get one.step.disks place ≡ Some disk → HasCopy old.sizes old.held new.held disk
  copy_of given disk is_given =
      let slot = disk.seat.slot in
      let ordered = order_at one.step.disks given disk is_given in
      let place = ordered.0 in
      let at = ordered.1 in
      let here = mapped_at (λ (other : Seated). other.seat.slot) (in_order one.step.disks) place disk at in
      let within = slice_get_within (in_order one.step.disks) place disk at in
      let counted = follows.are_prepared.counted in
      let update = some_at_place one.updates place (omega (arith, within, counted)) in
      let is = changed.have_changed place slot update.0 (slice_get_within (slots_in (in_order one.step.disks)) place slot here) here update.1 in
      record {
        anchor = anchor_after (seat place);
        update = update.0;
        are_both = subst (λ (copy : DiskCopy). AreBoth (slice_index old.sizes slot) (new.held slot) (anchor_after (seat place)) copy) (news place disk at) is.are_both;
        is_prepared = follows.are_prepared.each place disk update.0 at update.1;
        outside = is.outside;
        floors = λ floor has same. got_floor old slot (seat place) floor (ap floor_of (news place disk at) ∙ same) has (new.held slot) (seat place).mode (may.may_change place slot here) is.are_both;
      }

  -- The step was written.
  pub step_written : IsWritten old.sizes old.held one.step new.held
  step_written = record {
    have_copies = copy_of;
    others = λ slot l beside.
        changed.others slot l (λ place below at.
        let found = in_map (λ (other : Seated). other.seat.slot) (in_order one.step.disks) place slot at in
        let from = order_from one.step.disks place found.0 found.1 in
        beside from.0 found.0 from.1 found.2);
  }

-- So was what was committed, of a step at the most.
pub committed_written : {D : Type 0} (old new : BayState D) (disks : List Seated) (steps : List ReadyStep) → length (steps_in steps) ≤ 1 → AreFollowing disks steps
    → (may : MayWriteNext old (record { recovery = None; steps = steps }))
    → AreChanged old new (next_slots (record { recovery = None; steps = steps })) may.seat (next_updates (record { recovery = None; steps = steps })) (length (next_slots (record { recovery = None; steps = steps })))
    → AreWritten old.sizes old.held (steps_in steps) new.held
committed_written old new disks [] few follows may changed = λ slot l. changed.others slot l (λ place below at. absurd (omega (arith, below)))
committed_written old new disks (one ∷ []) few follows may changed = (new.held, step_written old new disks one follows.0 may.seat may.news may.may_change changed, λ slot l. refl)
committed_written old new disks (one ∷ other ∷ others) few follows may changed = absurd (omega (arith, few))

-- The recovery was written before the steps behind it.
pub recovery_written : {D : Type 0} (old middle : BayState D) (group : GroupValue) (disks : List Seated) (next : Option ReadyStep) (steps : List ReadyStep) (after : Image) → IfSome next (Follows disks)
    → (may : MayRecover old group (record { recovery = next; steps = steps }))
    → AreChanged (synced old (slots_of group.seats)) middle (slots_written next) may.seat (updates_written next) (length (slots_written next))
    → AreWritten old.sizes middle.held (steps_in steps) after → AreWritten old.sizes old.held (steps_in (option_to_list next ++ steps)) after
recovery_written old middle group disks None steps after follows may changed written =
    let same : middle.held ≡ old.held = fun_ext (λ slot. fun_ext (λ l. changed.others slot l (λ place below at. absurd (omega (arith, below))))) in
    subst (λ (image : Image). AreWritten old.sizes image (steps_in steps) after) same written
recovery_written old middle group disks (Some one) steps after follows may changed written =
    (middle.held, step_written (synced old (slots_of group.seats)) middle disks one follows may.seat may.news may.may_change changed, written)

-- A slot that was settled is settled once the next step was written.
pub settled_still : {D : Type 0} (middle new : BayState D) (steps : List ReadyStep) (seat : ℕ → SlotChange)
    → AreChanged middle new (next_slots (record { recovery = None; steps = steps })) seat (next_updates (record { recovery = None; steps = steps })) (length (next_slots (record { recovery = None; steps = steps })))
    → (slot : ℕ) → IsSettled middle.may_hold middle.held slot → IsSettled new.may_hold new.held slot
settled_still middle new [] seat changed slot settled l bytes may =
    settled l bytes (changed.others_left slot l bytes (λ place below at. absurd (omega (arith, below))) may)
    ∙ sym (changed.others slot l (λ place below at. absurd (omega (arith, below))))
settled_still middle new (one ∷ others) seat changed slot settled l bytes may = elim (slot_or_none (in_order one.step.disks) slot) [
  | inl found ↦
      let here = mapped_at (λ (disk : Seated). disk.seat.slot) (in_order one.step.disks) found.0 found.1 found.2 in
      subst (λ (n : ℕ). IsSettled new.may_hold new.held n) (sym found.3)
      (changed.are_settled found.0 found.1.seat.slot (slice_get_within (slots_in (in_order one.step.disks)) found.0 found.1.seat.slot here) here) l bytes may
  | inr none ↦
      let beside = λ (place : ℕ) (below : place < length (slots_in (in_order one.step.disks))) (at : slice_get (slots_in (in_order one.step.disks)) place ≡ Some slot).
      let found = in_map (λ (disk : Seated). disk.seat.slot) (in_order one.step.disks) place slot at in
      none place found.0 found.1 (sym found.2) in
      settled l bytes (changed.others_left slot l bytes beside may) ∙ sym (changed.others slot l beside)
]

-- ---- what is asked to be written

no_sectors : (steps : List ReadyStep) → steps_in steps ≡ [] → all_sectors (next_updates (record { recovery = None; steps = steps })) ≡ 0
no_sectors [] none = refl
no_sectors (one ∷ others) none = absurd cc

no_recovery : (next : Option ReadyStep) (steps : List ReadyStep) → steps_in (option_to_list next ++ steps) ≡ [] → (all_sectors (updates_written next) ≡ 0) × (steps_in steps ≡ [])
no_recovery None steps none = (refl, none)
no_recovery (Some one) steps none = absurd cc

-- Without a step no sector is asked to be written.
pub none_asked : {D : Type 0} (old middle new : BayState D) (syncs calls : ℕ) (next : Option ReadyStep) (steps : List ReadyStep) → Costs old middle (all_sectors (updates_written next)) syncs
    → Costs middle new (all_sectors (next_updates (record { recovery = None; steps = steps }))) calls
    → steps_in (option_to_list next ++ steps) ≡ [] → new.sectors_asked ≡ old.sectors_asked
none_asked old middle new syncs calls next steps first second none =
    let nothing = no_recovery next steps none in
    let later = no_sectors steps nothing.1 in
    omega (arith, nothing.0, later, first.asked_up, first.asked, second.asked_up, second.asked)

-- ---- the sequence number

pub next_sequence : (group : GroupValue) (steps : List ReadyStep) → length (steps_in steps) ≤ 1
    → (group_next group (record { recovery = None; steps = steps })).config.sequence ≡ last_sequence group.config.sequence (steps_in steps)
next_sequence group [] few = refl
next_sequence group (one ∷ []) few = refl
next_sequence group (one ∷ other ∷ others) few = absurd (omega (arith, few))

recovered_sequence : (group : GroupValue) (next : Option ReadyStep) (steps : List Step)
    → last_sequence (group_recovered group next).config.sequence steps ≡ last_sequence group.config.sequence (steps_in (option_to_list next) ++ steps)
recovered_sequence group None steps = refl
recovered_sequence group (Some one) steps = refl

steps_append : (next : Option ReadyStep) (steps : List ReadyStep) → steps_in (option_to_list next) ++ steps_in steps ≡ steps_in (option_to_list next ++ steps)
steps_append None steps = refl
steps_append (Some one) steps = refl

-- The sequence number of the group behind a recovery and a step at the most.
pub sequence_is : (group : GroupValue) (next : Option ReadyStep) (steps : List ReadyStep) → length (steps_in steps) ≤ 1
    → (group_next (group_recovered group next) (record { recovery = None; steps = steps })).config.sequence ≡ last_sequence group.config.sequence (steps_in (option_to_list next ++ steps))
sequence_is group next steps few =
    next_sequence (group_recovered group next) steps few ∙ recovered_sequence group next (steps_in steps) ∙ ap (last_sequence group.config.sequence) (steps_append next steps)
