-- A join is written: whatever a stop leaves shows what it should, and behind it the join is acknowledged.
use Rattle.std.proofs.Common.{◌≡◌, ◌⊎◌, ℕ, ◌<◌, Bool, true, false, List, length, map, Some, if◌then◌else◌, refl, ap, sym, ◌∙◌, inl, inr, ⊎_elim, subst}
use Rattle.std.specs.Prelude.{slice_get}
use Rattle.std.specs.Str.{bytes_eq}
use Rattle.ddf_lemmas.proofs.Lists.{in_map}
use Rattle.ddf_bay.specs.Sectors.{Image, IsLeft}
use Rattle.ddf_bay.specs.State.{BayState}
use Rattle.ddf_config.specs.Configuration.{Configuration}
use Rattle.ddf_copy.specs.declared.copy.DiskCopy.{DiskCopy}
use Rattle.ddf_copy.specs.Written.{CanBeCopy}
use Rattle.ddf_update.specs.declared.prepared.Mode.TheVariants as modes
use Rattle.ddf_update.specs.Changes.{AreChanged, IsLeftChangingAll}
use Rattle.ddf_update.specs.Group.{LieOnSlots}
use Rattle.ddf_update.specs.Prepared.{writes_anchor}
use Rattle.ddf_view.specs.View.{View, view_of}
use Rattle.ddf_rewrite.specs.Before.{Before}
use Rattle.ddf_rewrite.specs.Changing.{CanChange}
use Rattle.ddf_rewrite.specs.Copies.{changed_copy}
use Rattle.ddf_rewrite.proofs.Agreeing.{copies_agree}
use Rattle.ddf_history.specs.Reading.{IsCopyOf, Scene, Shown}
use Rattle.ddf_history.specs.Reading.Shown.{One}
use Rattle.ddf_history.specs.Groups.{Disk, Shows, disk_of, groups, has_current}
use Rattle.ddf_history.specs.Issued.{Past}
use Rattle.ddf_history.specs.Promise.{IsKept}
use Rattle.ddf_history.specs.Scenes.{scene_of}
use Rattle.ddf_history.specs.Steps.{AreWritten, IsPart, OthersLast}
use Rattle.ddf_history.proofs.Copies.{changed_is_full, changed_is_ours, changed_names}
use Rattle.ddf_history.proofs.Since.{which}
use Rattle.ddf_history.proofs.Sound.{groups_are_sound}
use Rattle.ddf_seats.specs.declared.seated.Seated.{Seated}
use Rattle.ddf_steps.specs.Committed.{slots_of, synced}
use Rattle.ddf_seats.specs.Group.{GroupValue}
use Rattle.ddf_joining.specs.Importing.{MayJoinDisks, group_joined, join_slots, join_updates, join_written}
use Rattle.ddf_joining.specs.Joining.{both_disks}
use Rattle.ddf_joining.specs.JoinValue.{JoinValue}
use Rattle.ddf_assembly.specs.Reading.{HaveAnchors}
use Rattle.ddf_seats.specs.Seated.{seated, is_adopted, levelled}
use Rattle.ddf_steps.specs.Steps.{Step, disks_after, rewritten}
use Rattle.ddf_seats.specs.Changing.{SlotsRise}
use Rattle.ddf_joining.proofs.BothOrder.{both_rise}
use Rattle.ddf_steps.proofs.CommittedLevels.{seated_after}
use Rattle.ddf_seats.proofs.Lists.{get_within}
use Rattle.ddf_joining.proofs.JoinWritten.{join_lies, joined_anchored, joined_holds, joined_settled, may_join as may_join_disks}
use Rattle.ddf_recovery.proofs.LeftStep.{same_view}
use Rattle.ddf_steps.proofs.Ordered.{adopted_last}
use Rattle.ddf_history.proofs.AnsweredTurned.{bytes_turned}
use Rattle.ddf_history_steps.specs.AtEnd.{IsAtEnd, IsMember}
use Rattle.ddf_history_joins.specs.Joins.{IsTakenOver, behind_join, with_join}
use Rattle.ddf_history_steps.specs.Kept.{is_slot, unwritten}
use Rattle.ddf_history_steps.proofs.ChangingCopies.{changed_views}
use Rattle.ddf_history_steps.proofs.CommittingScenes.{all_say, changed_written, written_shows}
use Rattle.ddf_history_steps.proofs.CommittingSeats.{IsRenewed, IsWritten, copy_in, renewed}
use Rattle.ddf_history_joins.proofs.JoinScenes.{may_join, member_written, old_names, slot_shown, sure_kept}
use Rattle.ddf_history_joins.proofs.JoinSeats.{CanJoin, by_disk, disks_are, is_member, made_is, old_is, stands_in, written_place}
use Rattle.ddf_history_steps.proofs.RecoveringPlaces.{view_group}
use Rattle.ddf_history_steps.proofs.Slots.{slot_is, slot_placed}
use Rattle.ddf_history_steps.proofs.Stops.{AreInTurn, changed_left, same_scene, stop_in_turn, stop_writes, unwritten_here, unwritten_left}
use Rattle.ddf_history_steps.proofs.StepMembers.{levelled_member, rewritten_names}
use Rattle.ddf_history_steps.proofs.TheoryChange.{AreNew}
use Rattle.ddf_history_joins.proofs.TheoryJoin.{join_acknowledged, join_issued, join_kept}
use Rattle.ddf_history_steps.proofs.TheoryLast.{last_acknowledged, last_next}
use Rattle.ddf_history_steps.proofs.RecoveringLossEnd.{ordered_slot, slots_same}

module _ (group : List ℕ) {D : Type 0} (past : Past (groups group)) (state : BayState D) (found other : GroupValue) (timestamp : ℕ) (leaders : Before) (join : JoinValue)
    (can : CanJoin group past state found other timestamp leaders join) where
  abbrev next : Configuration
  next = join.one.step.config

  abbrev both : List Seated
  both = both_disks (seated found) (seated other)

  abbrev slots : List ℕ
  slots = join_slots join

  abbrev sure : BayState D
  sure = synced state (slots_of join.joining)

  -- the copy of each slot, and what the new ones show
  abbrev old : ℕ → DiskCopy
  old = copy_in found.newest

  abbrev new : ℕ → View
  new = changed_views old leaders next timestamp

  -- it may be written
  pub may : MayJoinDisks state join
  may = may_join_disks timestamp leaders found other join can.is_join state can.at_end.holds

  lies : LieOnSlots state.sizes slots (join_updates join)
  lies = join_lies timestamp leaders found other join can.is_join state.sizes can.at_end.under

  same_group : next.group ≡ group
  same_group = ap (λ (config : Configuration). config.group) can.next_is ∙ can.at_end.same_group

  -- ---- the new copies

  can_change : (slot : ℕ) → is_slot slots slot ≡ true → CanChange (old slot) leaders next timestamp
  can_change = by_disk group past state found other timestamp leaders join can (λ copy. CanChange copy leaders next timestamp) can.can_change

  are_copies : (slot : ℕ) → is_slot slots slot ≡ true → CanBeCopy (changed_copy (old slot) leaders next timestamp)
  are_copies = by_disk group past state found other timestamp leaders join can (λ copy. CanBeCopy (changed_copy copy leaders next timestamp)) can.are_copies

  new_ours : (slot : ℕ) → bytes_eq group (new slot).group ≡ true
  new_ours slot = ap (λ (name : List ℕ). bytes_eq name (new slot).group) (sym same_group) ∙ changed_is_ours (old slot) leaders next timestamp

  -- A disk that is written is one of both.
  made_from : (place : ℕ) (made : Seated) → slice_get (join_written join) place ≡ Some made → IsRenewed both leaders next timestamp made
  made_from place made at =
      let from = made_is group past state found other timestamp leaders join can place made at in
      renewed both leaders next timestamp from.0 made from.1

  -- What a slot is to show is what its disk's new copy says.
  news : (place slot : ℕ) → slice_get slots place ≡ Some slot → new slot ≡ view_of (may.seat place).new
  news place slot at =
      let made = written_place group past state found other timestamp leaders join can place slot at in
      let own = made_from place made.0 made.1 in
      let wrote : IsWritten both leaders next timestamp slot =
      record { made = made.0; renews = own; slot_is = ap (λ (disk : Seated). disk.seat.slot) own.is_made ∙ made.2 } in
      ap (λ (copy : DiskCopy). view_of (changed_copy copy leaders next timestamp)) (old_is group past state found other timestamp leaders join can slot wrote)
      ∙ sym (same_view leaders next timestamp own.disk)
      ∙ ap (λ (disk : Seated). view_of disk.copy) own.is_made
      ∙ sym (ap view_of (may.news place made.0 made.1))

  -- ---- once the joining slots are synced

  module _ (image : Image) (left : IsLeft (synced state (slots_of join.joining)).may_hold image) where
    -- The join may be issued.
    pub issued : IsKept (with_join group past join) (scene_of state.sizes image)
    issued =
        join_issued (groups group) (groups_are_sound group) past (scene_of state.sizes image)
        (sure_kept group past state found other timestamp leaders join can image left) found.config next can.at_end.is_last
        (may_join group past state found other timestamp leaders join can image left)

    are_new : AreNew (groups group) past next (is_slot slots) new
    are_new = record {
      names = λ slot here. changed_names (old slot) leaders next timestamp ∙ old_names group past state found other timestamp leaders join can image left slot here;
      are_ours = λ slot here. new_ours slot;
      are_full = λ slot here. changed_is_full (old slot) leaders next timestamp (can_change slot here) (are_copies slot here);
      are_members = λ slot here.
          ap (has_current next) (sym (old_names group past state found other timestamp leaders join can image left slot here))
          ∙ by_disk group past state found other timestamp leaders join can (λ copy. has_current next (disk_of (view_of copy)) ≡ true)
          (λ place disk at stays. (is_member group past state found other timestamp leaders join can place disk at).is_current) slot here;
      agree = λ s t one also.
          copies_agree (old s) (old t) leaders next timestamp (can_change s one).names (can_change s one).rebuilt (can_change s one).room (can_change t also).room;
    }

    -- Disks of the other group get their copies last.
    others_last : (after : Scene View) → AreInTurn slots new (scene_of state.sizes image) after → OthersLast (groups group) (is_slot slots) new (scene_of state.sizes image) after
    others_last after turns s t copy seat none only also alone ours =
        let here = slot_placed slots s seat in
        let there = slot_placed slots t also in
        let made = written_place group past state found other timestamp leaders join can here.0 s here.1 in
        let native = written_place group past state found other timestamp leaders join can there.0 t there.1 in
        let last = adopts_other here.0 made.0 s made.1 made.2 (foreign s seat none) in
        let first = adopts_own there.0 native.0 t native.1 native.2 (own t also copy alone ours) in
        let less =
        adopted_last (disks_after timestamp leaders next both) there.0 here.0 native.0 made.0
        (ap (λ (all : List Seated). slice_get all there.0) (sym (disks_are group past state found other timestamp leaders join can)) ∙ native.1)
        (ap (λ (all : List Seated). slice_get all here.0) (sym (disks_are group past state found other timestamp leaders join can)) ∙ made.1) first last in
        turns here.0 there.0 s t here.1 there.1 less only
        (λ was. none (new s) (subst (λ (it : Shown View). IsCopyOf it (new s)) (sym was) refl) (new_ours s))
      where
        shown : (slot : ℕ) → is_slot slots slot ≡ true → IsCopyOf (scene_of state.sizes image slot) (view_of (old slot))
        shown = slot_shown group past state found other timestamp leaders join can image left

        -- whether the copy of a slot is of the group
        alike : (slot : ℕ) → bytes_eq group (view_of (old slot)).group ≡ bytes_eq (old slot).header.guid next.group
        alike slot =
            ap (bytes_eq group) (view_group (old slot)) ∙ bytes_turned group (old slot).header.guid ∙ ap (bytes_eq (old slot).header.guid) (sym same_group)

        foreign : (slot : ℕ) → is_slot slots slot ≡ true → ((view : View) → IsCopyOf (scene_of state.sizes image slot) view → bytes_eq group view.group ≡ true → ⊥)
            → bytes_eq (old slot).header.guid next.group ≡ false
        foreign slot here none = elim (which (bytes_eq (old slot).header.guid next.group)) [
          | inl is ↦ absurd (none (view_of (old slot)) (shown slot here) (alike slot ∙ is))
          | inr not_so ↦ not_so
        ]

        own : (slot : ℕ) → is_slot slots slot ≡ true → (view : View) → scene_of state.sizes image slot ≡ One view → bytes_eq group view.group ≡ true
            → bytes_eq (old slot).header.guid next.group ≡ true
        own slot here view alone ours =
            let same : view_of (old slot) ≡ view = subst (λ (it : Shown View). IsCopyOf it (view_of (old slot))) alone (shown slot here) in
            sym (alike slot) ∙ ap (λ (v : View). bytes_eq group v.group) same ∙ ours

        -- how a disk that is written at a place is written, by the copy of its slot
        by_mode : (place : ℕ) (made : Seated) (slot : ℕ) (b : Bool) → slice_get (join_written join) place ≡ Some made → made.seat.slot ≡ slot
            → bytes_eq (old slot).header.guid next.group ≡ b → is_adopted made ≡ writes_anchor (if b then modes.Change else modes.Adopt)
        by_mode place made slot b at is same =
            let from = made_from place made at in
            let wrote : IsWritten both leaders next timestamp slot =
            record { made = made; renews = from; slot_is = ap (λ (disk : Seated). disk.seat.slot) from.is_made ∙ is } in
            let copy = old_is group past state found other timestamp leaders join can slot wrote in
            sym (ap is_adopted from.is_made)
            ∙ ap (λ (x : Bool). writes_anchor (if x then modes.Change else modes.Adopt)) (ap (λ (c : DiskCopy). bytes_eq c.header.guid next.group) (sym copy) ∙ same)

        adopts_other : (place : ℕ) (made : Seated) (slot : ℕ) → slice_get (join_written join) place ≡ Some made → made.seat.slot ≡ slot
            → bytes_eq (old slot).header.guid next.group ≡ false → is_adopted made ≡ true
        adopts_other place made slot at is same = by_mode place made slot false at is same

        adopts_own : (place : ℕ) (made : Seated) (slot : ℕ) → slice_get (join_written join) place ≡ Some made → made.seat.slot ≡ slot
            → bytes_eq (old slot).header.guid next.group ≡ true → is_adopted made ≡ false
        adopts_own place made slot at is same = by_mode place made slot true at is same

    module _ (after : Scene View) (wrote : AreWritten (is_slot slots) new (scene_of state.sizes image) after) (last : OthersLast (groups group) (is_slot slots) new (scene_of state.sizes image) after) where
      -- Whichever have their new copies, each slot shows what it should.
      written_kept : IsKept (with_join group past join) after
      written_kept =
          join_kept (groups group) (groups_are_sound group) past (scene_of state.sizes image)
          (sure_kept group past state found other timestamp leaders join can image left) found.config next can.at_end.is_last
          (may_join group past state found other timestamp leaders join can image left) (is_slot slots) new are_new after wrote last
          (member_written group past state found other timestamp leaders join can image left)

      -- Where all have, the join is acknowledged.
      written_done : ((slot : ℕ) → is_slot slots slot ≡ true → after slot ≡ One (new slot)) → IsKept (behind_join group past join) after
      written_done done =
          join_acknowledged (groups group) (groups_are_sound group) past (scene_of state.sizes image)
          (sure_kept group past state found other timestamp leaders join can image left) found.config next can.at_end.is_last
          (may_join group past state found other timestamp leaders join can image left) (is_slot slots) new are_new after wrote last
          (member_written group past state found other timestamp leaders join can image left) done

  -- ---- while it is written

  holds_sure : (s l : ℕ) → is_slot slots s ≡ true → sure.may_hold s l (sure.held s l)
  holds_sure s l here = (can.at_end.is_left s l, λ place at. refl)

  module _ (image : Image) (left : IsLeftChangingAll sure slots may.seat (join_updates join) image) where
    start : IsLeft sure.may_hold (unwritten sure slots image)
    start = unwritten_left sure slots may.seat (join_updates join) image holds_sure left

    stop_wrote : AreWritten (is_slot slots) new (scene_of state.sizes (unwritten sure slots image)) (scene_of state.sizes image)
    stop_wrote =
        stop_writes sure slots may.seat (join_updates join) image lies.are_slots lies.counted may.may_change (λ place slot at. can.at_end.says_one slot) left new news

    -- Whatever a stop leaves shows what it should.
    pub changing_kept : IsKept (with_join group past join) (scene_of state.sizes image)
    changing_kept =
        written_kept (unwritten sure slots image) start (scene_of state.sizes image) stop_wrote
        (others_last (unwritten sure slots image) start (scene_of state.sizes image)
        (stop_in_turn sure slots may.seat (join_updates join) image lies.are_slots lies.counted may.may_change (λ place slot at. can.at_end.says_one slot) left new news))

    -- A slot that is written shows what it showed, or the new configuration.
    pub changing_taken : (slot : ℕ) → is_slot (join_slots join) slot ≡ true
        → IsTakenOver group join.one.step.config (scene_of state.sizes state.held) (scene_of state.sizes image) slot
    changing_taken slot here =
        subst (λ (shown : Shown View). ((scene_of state.sizes image slot) ≡ shown) ⊎ IsPart shown (scene_of state.sizes image slot)
        ⊎ ((copy : View) × (scene_of state.sizes image slot ≡ One copy) × (bytes_eq group copy.group ≡ true) × Shows copy next))
        (same_scene state.sizes (unwritten sure slots image) state.held slot (unwritten_here sure slots image slot here))
        (⊎_elim inl
        (λ wrote. inr (⊎_elim inl
        (λ is. inr (new slot, is, new_ours slot, (changed_is_full (old slot) leaders next timestamp (can_change slot here) (are_copies slot here)).shows)) wrote.1))
        (stop_wrote slot))

  -- the disks as they read are left
  settled_held : IsLeft sure.may_hold state.held
  settled_held = λ s l. (can.at_end.is_left s l, λ place at. refl)

  -- a disk of the step is one of both
  step_from : (k : ℕ) (made : Seated) → slice_get join.one.step.disks k ≡ Some made → IsRenewed both leaders next timestamp made
  step_from k made at = renewed both leaders next timestamp k made (sym (ap (λ (step : Step). slice_get step.disks k) can.is_join.step) ∙ at)

  -- ---- behind it

  module _ (now : BayState D) (same_sizes : now.sizes ≡ state.sizes)
      (changed : AreChanged sure now slots may.seat (join_updates join) (length slots)) where
    -- Whatever a stop leaves then shows what it should, and the join is acknowledged.
    all_kept : (image : Image) → IsLeft now.may_hold image → IsKept (behind_join group past join) (scene_of now.sizes image)
    all_kept image left =
        let shows = written_shows sure now slots may.seat (join_updates join) lies.are_slots lies.counted same_sizes changed image left new news in
        written_done (unwritten sure slots image)
        (changed_left sure now slots may.seat (join_updates join) image new news lies.are_slots lies.counted same_sizes changed left holds_sure)
        (scene_of now.sizes image)
        (changed_written sure now slots may.seat (join_updates join) lies.are_slots lies.counted same_sizes changed image left new news)
        (λ s t copy seat none only also alone ours. shows t also)
        shows

    -- The disks of the group then are those of the step.
    joined_disks : seated (group_joined found join) ≡ map levelled join.one.step.disks
    joined_disks =
        let rise =
        both_rise (seated found) (seated other) (subst SlotsRise (sym can.at_end.is_settled.are_seated) can.at_end.is_settled.slots_rise)
        (subst SlotsRise (sym can.is_join.other_assembled.are_seated) can.is_join.other_assembled.slots_rise) can.is_join.are_apart in
        seated_after found join.one.step (can.is_join.follows.slots_rise rise)
        (λ k made at.
        let from = step_from k made at in
        let own = stands_in group past state found other timestamp leaders join can from.place from.disk from.at in
        subst (λ (disk : Seated). disk.seat.slot < length found.newest) from.is_made (get_within found.newest (Some own.0) from.disk.seat.slot own.1))

    -- Each is a current member.
    members : (place : ℕ) (disk : Seated) → slice_get (seated (group_joined found join)) place ≡ Some disk → IsMember next disk
    members place disk at =
        let made = in_map levelled join.one.step.disks place disk (sym (ap (λ (all : List Seated). slice_get all place) joined_disks) ∙ at) in
        let from = step_from place made.0 made.1 in
        let is = is_member group past state found other timestamp leaders join can from.place from.disk from.at in
        let names = rewritten_names leaders next timestamp from.disk in
        let own : IsMember next (rewritten leaders next timestamp from.disk) =
        record { same_reference = is.same_reference ∙ ap (λ (one : Disk). one.reference) (sym names); is_current = ap (has_current next) names ∙ is.is_current } in
        subst (IsMember next) made.2 (levelled_member next made.0 (subst (IsMember next) from.is_made own))

    -- The group that both have become stands at the end of the history.
    pub joined : IsLeft now.may_hold now.held → IsAtEnd group (behind_join group past join) now (group_joined found join)
    joined left = record {
      all_kept = all_kept;
      is_last = last_acknowledged (with_join group past join).changes (length past.changes.issued) next (last_next past.changes past.changes.acked found.config next can.at_end.is_last);
      is_settled = joined_settled timestamp leaders found other join can.is_join;
      holds = joined_holds timestamp leaders found other join can.is_join state now same_sizes can.at_end.holds may changed;
      under = subst (λ (sizes : List ℕ). HaveAnchors sizes (group_joined found join).newest) (sym same_sizes)
          (joined_anchored timestamp leaders found other join can.is_join state.sizes can.at_end.under);
      same_slots = can.at_end.same_slots ∙ ap length (sym same_sizes);
      same_group = same_group;
      are_seated = λ slot here current.
          ap (λ (all : List ℕ). is_slot all slot) (slots_same join.one.step.disks)
          ∙ ordered_slot join.one.step.disks slot
          (member_written group past state found other timestamp leaders join can state.held settled_held slot here current);
      are_members = members;
      says_one = all_say sure now slots may.seat (join_updates join) lies.are_slots lies.counted same_sizes changed now.held left new news can.at_end.says_one;
      is_left = left;
    }
