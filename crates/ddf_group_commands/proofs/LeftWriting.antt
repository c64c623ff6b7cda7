-- What the writing of a group's steps leaves of its disks.
use Rattle.std.proofs.Common.{◌≡◌, ◌⊎◌, ℕ, true, List, [], ◌∷◌, ◌++◌, Option, Some, None, Result, Ok, refl, ap, sym, ◌∙◌, subst, inl, inr, ⊎_elim, arith}
use Rattle.std.specs.Prelude.{slice_get}
use Rattle.std.specs.Option.{option_to_list}
use Rattle.ddf_lemmas.proofs.Lists.{in_map, some_at_place}
use Rattle.ddf_bay.specs.Moments.{StopsLeave}
use Rattle.ddf_bay.specs.ReadsOnly.{ReadsOnly}
use Rattle.ddf_bay.specs.Sectors.{Image, IsLeft}
use Rattle.ddf_bay.specs.State.{BayState, size_of}
use Rattle.ddf_bay.proofs.Steps.{stops_then, stops_weaken}
use Rattle.ddf_copy.specs.declared.copy.DiskCopy.{DiskCopy}
use Rattle.ddf_plan.specs.declared.change.Change.{Change}
use Rattle.ddf_update.specs.Changes.{IsLeftChangingAll, MayChangeAll, SlotChange}
use Rattle.ddf_update.specs.Group.{LieOnSlots}
use Rattle.ddf_view.specs.View.{View, view_of}
use Rattle.ddf_view.proofs.Finds.{place_within}
use Rattle.ddf_history.specs.Reading.{Shown, IsCopyOf}
use Rattle.ddf_history.specs.Reading.Shown.{One}
use Rattle.ddf_history.specs.Scenes.{scene_of}
use Rattle.ddf_history.specs.Steps.{IsPart}
use Rattle.ddf_history.proofs.Since.{which}
use Rattle.ddf_seats.specs.declared.fault.GroupFault.{GroupFault}
use Rattle.ddf_seats.specs.declared.seated.Seated.{Seated}
use Rattle.ddf_recovery.specs.Committed.{MayRecover, MayWriteNext, WasReadied, next_slots, next_updates, slots_written, updates_written}
use Rattle.ddf_steps.specs.Committed.{slots_of, synced}
use Rattle.ddf_seats.specs.Group.{GroupValue, floor_of}
use Rattle.ddf_steps.specs.Ready.{ReadyStep}
use Rattle.ddf_recovery.specs.Ready.{ReadyValue, all_ready, readied}
use Rattle.ddf_recovery.specs.Recovery.{disks_recovered}
use Rattle.ddf_seats.specs.Seated.{slots_in}
use Rattle.ddf_steps.specs.Steps.{Step, in_order}
use Rattle.ddf_steps.specs.Trying.{AreFollowing, ArePrepared}
use Rattle.ddf_steps.proofs.Ordered.{order_from}
use Rattle.ddf_recovery.proofs.RecoveredGroup.{recovery_follows}
use Rattle.ddf_recovery.proofs.RecoveryWritten.{may_recover, recovery_lies}
use Rattle.ddf_history_steps.specs.Kept.{ReadsTrue, SaysOne, is_slot, unwritten}
use Rattle.ddf_history_steps.proofs.Again.{bytes_say_one}
use Rattle.ddf_history_steps.proofs.Slots.{slot_placed}
use Rattle.ddf_history_steps.proofs.Stops.{each_outside, each_shows, other_shows, unwritten_else, unwritten_here, unwritten_left}
use Rattle.ddf_group_commands.specs.GroupRead.{IsReadFrom}
use Rattle.ddf_group_commands.specs.Writing.{IsLeftWriting, IsStepsSector, IsWrittenOn, ShowsStep}
use Rattle.ddf_group_commands.proofs.Keeping.{MayLeave, Moments, Tells}
use Rattle.ddf_group_commands.proofs.Recovering.{rest_lies}
use Rattle.ddf_group_commands.proofs.StepsWritten.{steps_in}
use Rattle.ddf_history_steps.specs.Floors.{HasFloor}
use Rattle.ddf_history_steps.proofs.Placed.{each_floor}

-- ---- nothing was written

-- An image that a stop might have left before is left.
pub left_still : {D : Type 0} (start : BayState D) (steps : List Step) (image : Image) → IsLeft start.may_hold image → IsLeftWriting start steps image
left_still start steps image left = record { before = image; is_left = left; shows = λ slot. inl refl; outside = λ slot l. inl refl; floors = λ slot floor has own. has }

-- A call that only reads leaves nothing else.
pub reads_leave : {D : Type 0} (old new : BayState D) (steps : List Step) → ReadsOnly old new → StopsLeave old new (IsLeftWriting old steps)
reads_leave old new steps reads = stops_weaken reads.any_moment (left_still old steps)

-- What is left of some disks is left of others of which more might be left before.
pub writing_more : {D : Type 0} (one other : BayState D) → one.sizes ≡ other.sizes → ((s l : ℕ) (bytes : List ℕ) → one.may_hold s l bytes → other.may_hold s l bytes) → (steps : List Step) (image : Image)
    → IsLeftWriting one steps image → IsLeftWriting other steps image
writing_more one other same_sizes more steps image writing = record {
  before = writing.before;
  is_left = λ s l. more s l (writing.before s l) (writing.is_left s l);
  shows = rw same_sizes at writing.shows;
  outside = rw same_sizes at writing.outside;
  floors = rw same_sizes at writing.floors;
}

-- So what is left since the disks were read is left since the call's entry.
pub writing_since : {D : Type 0} (old middle : BayState D) → ReadsOnly old middle → (steps : List Step) (image : Image) → IsLeftWriting middle steps image → IsLeftWriting old steps image
writing_since old middle reads steps image writing = writing_more middle old reads.same_sizes reads.keeps steps image writing

pub leaves_since : {D : Type 0} (old middle new : BayState D) (steps : List Step) → ReadsOnly old middle → StopsLeave middle new (IsLeftWriting middle steps)
    → StopsLeave old new (IsLeftWriting old steps)
leaves_since old middle new steps reads leaves = stops_then (reads_leave old middle steps reads) leaves (writing_since old middle reads steps)

-- ---- what a slot shows

-- what it shows after another thing: that, of two copies that differ one alone, or the copy of a step
abbrev pub ShowsFrom : List Step → (slot : ℕ) → (before after : Shown View) → Type 0
ShowsFrom steps slot before after = (after ≡ before) ⊎ IsPart before after ⊎ ShowsStep steps slot after

-- What shows one of two copies that differ shows that one behind a single copy too.
part_of_one : (before after : Shown View) (only : View) → IsPart before after → before ≡ One only → after ≡ before
part_of_one before after only part is =
    let same : part.copy ≡ only = subst (λ (shown : Shown View). IsCopyOf shown part.copy) is part.is_copy in
    part.is_only ∙ ap (λ (view : View). One view) same ∙ sym is

-- after one thing and then another
shows_then : (steps : List Step) (slot : ℕ) (before middle after : Shown View) → ShowsFrom steps slot before middle → ShowsFrom steps slot middle after → ShowsFrom steps slot before after
shows_then steps slot before middle after first (inl same) = subst (ShowsFrom steps slot before) (sym same) first
shows_then steps slot before middle after (inl same) (inr (inl part)) = inr (inl (subst (λ (shown : Shown View). IsPart shown after) same part))
shows_then steps slot before middle after (inr (inl one)) (inr (inl part)) =
    inr (inl (subst (IsPart before) (sym (part_of_one middle after one.copy part one.is_only)) one))
shows_then steps slot before middle after (inr (inr new)) (inr (inl part)) =
    inr (inr (subst (ShowsStep steps slot) (sym (part_of_one middle after (view_of new.0.disk.copy) part new.1)) new))
shows_then steps slot before middle after first (inr (inr new)) = inr (inr new)

-- the copy that the disk of a step gets
abbrev pub IsStepsCopy : List Step → (slot : ℕ) → View → Type 0
IsStepsCopy steps slot view = (on : IsWrittenOn steps slot) × (view ≡ view_of on.disk.copy)

copy_from : (steps : List Step) (slot : ℕ) (before after : Shown View) (view : View) → ShowsFrom steps slot before after → IsCopyOf after view → IsCopyOf before view ⊎ IsStepsCopy steps slot view
copy_from steps slot before after view (inl same) is = inl (subst (λ (shown : Shown View). IsCopyOf shown view) same is)
copy_from steps slot before after view (inr (inl part)) is =
    let one : view ≡ part.copy = subst (λ (shown : Shown View). IsCopyOf shown view) part.is_only is in
    inl (subst (IsCopyOf before) (sym one) part.is_copy)
copy_from steps slot before after view (inr (inr new)) is = inr (new.0, subst (λ (shown : Shown View). IsCopyOf shown view) new.1 is)

-- Each copy that a slot shows is one that it showed before, or that of a step.
pub copy_left : {D : Type 0} (start : BayState D) (steps : List Step) (image : Image) → (writing : IsLeftWriting start steps image) → (slot : ℕ) (view : View)
    → IsCopyOf (scene_of start.sizes image slot) view → IsCopyOf (scene_of start.sizes writing.before slot) view ⊎ IsStepsCopy steps slot view
copy_left start steps image writing slot view is = copy_from steps slot _ _ view (writing.shows slot) is

-- ---- one step

module _ {D : Type 0} (start : BayState D) (one : ReadyStep) (seat : ℕ → SlotChange) (image : Image) (lies : LieOnSlots start.sizes (slots_in (in_order one.step.disks)) one.updates)
    (may : MayChangeAll start (slots_in (in_order one.step.disks)) seat one.updates) (news : (place : ℕ) (disk : Seated) → slice_get (in_order one.step.disks) place ≡ Some disk → (seat place).new ≡ disk.copy)
    (prepared : ArePrepared (in_order one.step.disks) one.updates) (held : IsLeft start.may_hold start.held) (says : (slot : ℕ) → SaysOne (size_of start slot) (start.held slot))
    (changing : IsLeftChangingAll start (slots_in (in_order one.step.disks)) seat one.updates image) (steps : List Step) (number : ℕ) (is_step : slice_get steps number ≡ Some one.step) where
  abbrev slots : List ℕ
  slots = slots_in (in_order one.step.disks)

  -- a slot that the step writes
  written_at : (place slot : ℕ) → slice_get slots place ≡ Some slot → (on : IsWrittenOn steps slot) × (slice_get (in_order one.step.disks) place ≡ Some on.disk)
  written_at place slot at =
      let found = in_map (λ (disk : Seated). disk.seat.slot) (in_order one.step.disks) place slot at in
      let from = order_from one.step.disks place found.0 found.1 in
      (record { number = number; step = one.step; is_step = is_step; place = from.0; disk = found.0; is_disk = from.1; on_slot = found.2 }, found.1)

  shows_here : (place slot : ℕ) → slice_get slots place ≡ Some slot → ShowsFrom steps slot (scene_of start.sizes (unwritten start slots image) slot) (scene_of start.sizes image slot)
  shows_here place slot at =
      let on = written_at place slot at in
      let written = each_shows start slots seat one.updates image lies.are_slots lies.counted may (λ other its there. says its) changing place slot at in
      ⊎_elim inl (λ other. inr (⊎_elim inl (λ new. inr (on.0, new ∙ ap (λ (copy : DiskCopy). One (view_of copy)) (news place on.0.disk on.1))) other)) written

  outside_here : (place slot l : ℕ) → slice_get slots place ≡ Some slot → is_slot slots slot ≡ true → (image slot l ≡ unwritten start slots image slot l) ⊎ IsStepsSector (size_of start slot) steps slot l
  outside_here place slot l at here =
      let within = place_within slots place slot at in
      let update = some_at_place one.updates place (omega (arith, within, lies.counted)) in
      let on = written_at place slot at in
      ⊎_elim
      (λ same. inl (same ∙ ap (λ (sector : ℕ → List ℕ). sector l) (sym (unwritten_here start slots image slot here))))
      (λ is. inr (record { on = on.0; update = update.0; is_prepared = prepared.each place on.0.disk update.0 on.1 update.1; is_in = is }))
      (each_outside start slots seat one.updates image lies.are_slots lies.counted may (λ other its there. says its) changing place slot update.0 at update.1 l)

  floors_here : (place slot : ℕ) → slice_get slots place ≡ Some slot → is_slot slots slot ≡ true → (floor : ℕ) → HasFloor (size_of start slot) (unwritten start slots image slot) floor
      → ((on : IsWrittenOn steps slot) → floor_of on.disk.copy ≡ floor) → HasFloor (size_of start slot) (image slot) floor
  floors_here place slot at here floor has own =
      let on = written_at place slot at in
      each_floor start slots seat one.updates image lies.counted may changing place slot at floor (ap floor_of (news place on.0.disk on.1) ∙ own on.0)
      (subst (λ (sector : ℕ → List ℕ). HasFloor (size_of start slot) sector floor) (unwritten_here start slots image slot here) has)

  -- A stop while it is written leaves its copies, and what might be left before.
  pub step_leaves : IsLeftWriting start steps image
  step_leaves = record {
    before = unwritten start slots image;
    is_left = unwritten_left start slots seat one.updates image (λ s l is. held s l) changing;
    shows = λ slot. elim (which (is_slot slots slot)) [
      | inl here ↦ let at = slot_placed slots slot here in shows_here at.0 slot at.1
      | inr none ↦ inl (other_shows start slots seat one.updates image lies.are_slots lies.counted may (λ other its there. says its) changing slot none)
    ];
    outside = λ slot l. elim (which (is_slot slots slot)) [
      | inl here ↦ let at = slot_placed slots slot here in outside_here at.0 slot l at.1 here
      | inr none ↦ inl (ap (λ (sector : ℕ → List ℕ). sector l) (sym (unwritten_else start slots image slot none)))
    ];
    floors = λ slot floor has own. elim (which (is_slot slots slot)) [
      | inl here ↦ let at = slot_placed slots slot here in floors_here at.0 slot at.1 here floor has own
      | inr none ↦ subst (λ (sector : ℕ → List ℕ). HasFloor (size_of start slot) sector floor) (unwritten_else start slots image slot none) has
    ];
  }

-- What is left behind what was left of these steps.
pub writing_by : {D : Type 0} (old middle : BayState D) (steps : List Step) (image : Image) → middle.sizes ≡ old.sizes → (now : IsLeftWriting middle steps image) → IsLeftWriting old steps now.before
    → IsLeftWriting old steps image
writing_by old middle steps image same_sizes now first =
    let shows = rw same_sizes at now.shows in
    let outside : (slot l : ℕ) → (image slot l ≡ now.before slot l) ⊎ IsStepsSector (size_of old slot) steps slot l = rw same_sizes at now.outside in
    let floors : (slot floor : ℕ) → HasFloor (size_of old slot) (now.before slot) floor → ((on : IsWrittenOn steps slot) → floor_of on.disk.copy ≡ floor) → HasFloor (size_of old slot) (image slot) floor =
    rw same_sizes at now.floors in
    record {
      before = first.before;
      is_left = first.is_left;
      shows = λ slot. shows_then steps slot _ _ _ (first.shows slot) (shows slot);
      outside = λ slot l. ⊎_elim (λ same. ⊎_elim (λ also. inl (same ∙ also)) inr (first.outside slot l)) inr (outside slot l);
      floors = λ slot floor has own. floors slot floor (first.floors slot floor has own) own;
    }

-- What is left behind another step.
writing_then : {D : Type 0} (old middle : BayState D) (steps : List Step) (image : Image) → middle.sizes ≡ old.sizes → IsLeftWriting middle steps image
    → ((before : Image) → IsLeft middle.may_hold before → IsLeftWriting old steps before) → IsLeftWriting old steps image
writing_then old middle steps image same_sizes now earlier = writing_by old middle steps image same_sizes now (earlier now.before now.is_left)

-- The next step is one of those that are left, also behind a recovery.
next_in : (next : Option ReadyStep) (one : ReadyStep) (others : List ReadyStep) → (number : ℕ) × (slice_get (steps_in (option_to_list next ++ one ∷ others)) number ≡ Some one.step)
next_in None one others = (0, refl)
next_in (Some first) one others = (1, refl)

-- Where the disks read true, each slot says one thing.
pub says_one : {D : Type 0} (state : BayState D) → ReadsTrue state → (slot : ℕ) → SaysOne (size_of state slot) (state.held slot)
says_one state reads slot = bytes_say_one (size_of state slot) (state.held slot) (reads.holds_bytes slot)

-- ---- the recovery, and the step behind it

module _ {D : Type 0} (tells : Type 0) (old : BayState D) (found : GroupValue) (changes : List Change) (timestamp : ℕ) (ready : ReadyValue) (from : IsReadFrom tells old found)
    (was : WasReadied found changes timestamp ready) (told : tells) (reads_true : old.tells_left → ReadsTrue old) (only_now : (image : Image) → old.left_since old.moment image → IsLeft old.may_hold image)
    (steps : List Step) (are_asked : readied found changes timestamp ≡ Ok steps) where
  may : MayRecover old found ready
  may = may_recover found changes timestamp ready was old (from.held told) (from.stand told)

  abbrev sure : BayState D
  sure = synced old (slots_of found.seats)

  abbrev own_steps : List Step
  own_steps = steps_in (all_ready ready)

  steps_are : own_steps ≡ steps
  steps_are = let same : ◌≡◌ {A = Result (List Step) GroupFault} (Ok own_steps) (Ok steps) = sym was.is_readied ∙ are_asked in cc

  abbrev RecoveryLeaves : (next : Option ReadyStep) (rest : List ReadyStep) → Type 0
  RecoveryLeaves next rest =
      (can : MayRecover old found (record { recovery = next; steps = rest })) → LieOnSlots old.sizes (slots_written next) (updates_written next) → (image : Image)
      → IsLeftChangingAll sure (slots_written next) can.seat (updates_written next) image → IsLeftWriting old (steps_in (option_to_list next ++ rest)) image

  recovery_by : ReadsTrue old → (next : Option ReadyStep) (rest : List ReadyStep) → ready.recovery ≡ next → RecoveryLeaves next rest
  recovery_by reads None rest is = λ can lies image changing. left_still old (steps_in rest) image (λ s l. (changing.others s l (λ place at. absurd cc)).0)
  recovery_by reads (Some one) rest is = λ can lies image changing.
      let follows = recovery_follows found changes timestamp ready was one is in
      let leaves = step_leaves sure one can.seat image lies can.may_change can.news follows.are_prepared (λ s l. (reads.is_left s l, λ place at. refl))
      (says_one old reads) changing (one.step ∷ steps_in rest) 0 refl in
      record { before = leaves.before; is_left = λ s l. (leaves.is_left s l).0; shows = leaves.shows; outside = leaves.outside; floors = leaves.floors }

  recovery_leaves : ReadsTrue old → (image : Image) → MayLeave old found ready may.seat image → IsLeftWriting old own_steps image
  recovery_leaves reads image (inl before) = left_still old own_steps image before
  recovery_leaves reads image (inr changing) = recovery_by reads ready.recovery ready.steps refl may (recovery_lies found changes timestamp ready was old.sizes from.under) image changing

  module _ (middle : BayState D) (same_sizes : middle.sizes ≡ old.sizes) (moments : Moments old found ready middle) (tell : Tells old middle) where
    stops : StopsLeave old middle (MayLeave old found ready may.seat)
    stops = moments may.seat may.may_change

    since_entry : StopsLeave old middle (IsLeftWriting old own_steps)
    since_entry = record {
      later = stops.later;
      since = λ t image le was_left. ⊎_elim inl (λ now. inr (recovery_leaves (reads_true (tell.back (tell.told t image was_left))) image now)) (stops.since t image le was_left);
    }

    -- A stop while the group is recovered leaves the recovery's copies, and what might be left before.
    pub recover_leaves : StopsLeave old middle (IsLeftWriting old steps)
    recover_leaves = subst (λ (all : List Step). StopsLeave old middle (IsLeftWriting old all)) steps_are since_entry

    -- So does one once it was.
    left_behind : ReadsTrue old → (image : Image) → IsLeft middle.may_hold image → IsLeftWriting old own_steps image
    left_behind reads image left =
        ⊎_elim (λ before. left_still old own_steps image (only_now image before)) (λ now. recovery_leaves reads image now)
        (stops.since old.moment image (omega arith) (tell.counts old.moment image stops.later left))

    module _ (can : MayWriteNext middle (record { recovery = None; steps = ready.steps })) (reads_then : middle.tells_left → ReadsTrue middle) where
      abbrev NextLeaves : (rest : List ReadyStep) → Type 0
      NextLeaves rest =
          (may_write : MayWriteNext middle (record { recovery = None; steps = rest })) → AreFollowing (disks_recovered timestamp found) rest
          → LieOnSlots middle.sizes (next_slots (record { recovery = None; steps = rest })) (next_updates (record { recovery = None; steps = rest })) → (image : Image)
          → IsLeftChangingAll middle (next_slots (record { recovery = None; steps = rest })) may_write.seat (next_updates (record { recovery = None; steps = rest })) image
          → IsLeftWriting middle (steps_in (option_to_list ready.recovery ++ rest)) image

      next_by : ReadsTrue middle → (rest : List ReadyStep) → NextLeaves rest
      next_by reads [] = λ may_write follows lies image changing. left_still middle (steps_in (option_to_list ready.recovery ++ [])) image (λ s l. changing.others s l (λ place at. absurd cc))
      next_by reads (one ∷ others) = λ may_write follows lies image changing.
          let at = next_in ready.recovery one others in
          step_leaves middle one may_write.seat image lies may_write.may_change may_write.news follows.0.are_prepared reads.is_left (says_one middle reads) changing
          (steps_in (option_to_list ready.recovery ++ one ∷ others)) at.0 at.1

      abbrev rest : ReadyValue
      rest = record { recovery = None; steps = ready.steps }

      module _ (new : BayState D) (next : (seat : ℕ → SlotChange) → MayChangeAll middle (next_slots rest) seat (next_updates rest) → StopsLeave middle new (IsLeftChangingAll middle (next_slots rest) seat (next_updates rest)))
          (tell_new : Tells middle new) where
        next_leaves : (t : ℕ) (image : Image) → new.left_since t image → IsLeftChangingAll middle (next_slots rest) can.seat (next_updates rest) image → IsLeftWriting old own_steps image
        next_leaves t image was_left changing =
            let tells_then = tell_new.back (tell_new.told t image was_left) in
            let lies = rest_lies tells old found changes timestamp ready from was in
            let now = next_by (reads_then tells_then) ready.steps can was.follows (rw same_sizes lies) image changing in
            writing_then old middle own_steps image same_sizes now (left_behind (reads_true (tell.back tells_then)))

        -- And so does one in the step behind it.
        pub commit_leaves : StopsLeave old new (IsLeftWriting old steps)
        commit_leaves =
            let behind = next can.seat can.may_change in
            subst (λ (all : List Step). StopsLeave old new (IsLeftWriting old all)) steps_are (record {
              later = let one = stops.later in let other = behind.later in omega (arith, one, other);
              since = λ t image le was_left. ⊎_elim
                  (λ before. since_entry.since t image le before)
                  (λ changing. inr (next_leaves t image was_left changing))
                  (behind.since t image (let one = stops.later in omega (arith, le, one)) was_left);
            })
