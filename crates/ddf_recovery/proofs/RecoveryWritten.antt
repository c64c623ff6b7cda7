-- What recovery may write to disks that hold a group, and what they hold once it was written.
use Rattle.std.proofs.Common.{◌≡◌, ℕ, Bool, true, false, List, [], length, Option, Some, None, Ok, refl, sym, ap, subst, ◌∙◌, arith, if◌then◌else◌}
use Rattle.std.proofs.Math.Path.{fun_ext}
use Rattle.std.specs.Prelude.{slice_get}
use Rattle.std.specs.List.{AllByRecursion}
use Rattle.ddf_lemmas.proofs.Lists.{in_map, mapped_at}
use Rattle.ddf_bay.specs.State.{BayState, size_of}
use Rattle.ddf_copy.specs.declared.newest_copy.Newest.{Newest}
use Rattle.ddf_copy.specs.Copies.{newest_of}
use Rattle.ddf_copy.specs.Shows.{IsNewest}
use Rattle.ddf_config.specs.declared.seat.Seat.{Seat}
use Rattle.ddf_config.specs.Seats.{SeatsFit}
use Rattle.ddf_plan.specs.declared.change.Change.{Change}
use Rattle.ddf_rewrite.proofs.Lists.{all_at}
use Rattle.ddf_update.specs.Changes.{AreChanged, MayGet, SlotChange}
use Rattle.ddf_update.specs.Group.{IsOneOf, LieOnSlots}
use Rattle.ddf_update.proofs.Getting.{has_old}
use Rattle.ddf_seats.specs.declared.seated.Seated.{Seated}
use Rattle.ddf_steps.specs.Committed.{AreSettled, IsRewritten, slots_of, synced}
use Rattle.ddf_recovery.specs.Committed.{HoldsGroup, MayRecover, WasReadied, group_recovered, recovery_slots, recovery_updates}
use Rattle.ddf_seats.specs.Group.{GroupValue}
use Rattle.ddf_assembly.specs.Held.{AreHeldOn, StandUnder}
use Rattle.ddf_assembly.specs.Reading.{HaveAnchors}
use Rattle.ddf_steps.specs.Ready.{ReadyStep}
use Rattle.ddf_recovery.specs.Ready.{ReadyValue}
use Rattle.ddf_seats.specs.Leading.{some}
use Rattle.ddf_seats.specs.Seated.{seated, seats_in, slots_in}
use Rattle.ddf_steps.specs.Steps.{in_order}
use Rattle.ddf_seats.specs.Changing.{SlotsRise}
use Rattle.ddf_recovery.proofs.Committed.{may_change_all, no_change, seat_is, seat_of, step_lies}
use Rattle.ddf_recovery.proofs.CommittedAfter.{after_anchored, after_held, after_under, held_still, recovered_holds, under_still}
use Rattle.ddf_seats.proofs.CommittedSeats.{seated_is}
use Rattle.ddf_seats.proofs.Lists.{get_within}
use Rattle.ddf_steps.proofs.Ordered.{order_from}
use Rattle.ddf_recovery.proofs.RecoveredGroup.{recovery_follows, replaces, rewriting}
use Rattle.ddf_steps.proofs.Synced.{settled_since}

-- ---- the disks once the seats' slots are synced

-- They hold the group then.
synced_holds : {D : Type 0} (state : BayState D) (group : GroupValue) → AreHeldOn state group.newest → StandUnder state group.newest → HoldsGroup (synced state (slots_of group.seats)) group
synced_holds state group held under = record {
  are_held = λ slot newest at. let is = held slot newest at in record { anchor = is.anchor; is_anchored = is.is_anchored; is_newest = is.is_newest };
  are_under = λ slot newest at anchor anchored. under slot newest at anchor anchored;
  are_settled = λ place seat below at l bytes left. left.1 place (mapped_at (λ (one : Seat). one.slot) group.seats place seat at);
}

-- ---- the seats behind a recovery

-- A disk of a step that rewrites those of a group is on one of its seats.
seat_among : (group : GroupValue) (one : ReadyStep) → AllByRecursion (IsRewritten (seated group) one.step.config) one.step.disks → (k : ℕ) (disk : Seated) → slice_get one.step.disks k ≡ Some disk
    → (place : ℕ) × (slice_get group.seats place ≡ Some disk.seat)
seat_among group one rewrites k disk at =
    let is = all_at (IsRewritten (seated group) one.step.config) one.step.disks k disk rewrites at in
    let own = seated_is group is.place is.before is.is_there in
    (own.place, own.is_seat ∙ ap (λ (seat : Seat). Some seat) (sym is.same_seat))

-- Each seat behind a recovery is one of those before it.
recovered_seat : (group : GroupValue) (one : ReadyStep) → AllByRecursion (IsRewritten (seated group) one.step.config) one.step.disks → (place : ℕ) (seat : Seat)
    → slice_get (group_recovered group (Some one)).seats place ≡ Some seat → (j : ℕ) × (slice_get group.seats j ≡ Some seat)
recovered_seat group one rewrites place seat at = by (some group.absent) at
  where
    by : (b : Bool) → slice_get (if b then seats_in one.step.disks else group.seats) place ≡ Some seat → (j : ℕ) × (slice_get group.seats j ≡ Some seat)
    by true h =
        let found = in_map (λ (disk : Seated). disk.seat) one.step.disks place seat h in
        let among = seat_among group one rewrites place found.0 found.1 in
        (among.0, among.1 ∙ ap (λ (one_seat : Seat). Some one_seat) found.2)
    by false h = (place, h)

module _ (group : GroupValue) (changes : List Change) (timestamp : ℕ) (ready : ReadyValue) (was : WasReadied group changes timestamp ready) where
  rise : SlotsRise (seats_in (seated group))
  rise = subst SlotsRise (sym was.assembled.are_seated) was.assembled.slots_rise

  -- ---- where it is written

  lies_by : (sizes : List ℕ) → HaveAnchors sizes group.newest → (next : Option ReadyStep) (steps : List ReadyStep) → ready.recovery ≡ next
      → LieOnSlots sizes (recovery_slots (record { recovery = next; steps = steps })) (recovery_updates (record { recovery = next; steps = steps }))
  lies_by sizes have None steps e = record {
    are_slots = record { there = λ place slot at. absurd cc; differ = λ first second slot at also. absurd cc };
    counted = refl;
    lie_on = λ place slot update at also. absurd cc;
  }
  lies_by sizes have (Some one) steps e = step_lies sizes group have one (recovery_follows group changes timestamp ready was one e) rise

  -- Its updates lie on their slots.
  pub recovery_lies : (sizes : List ℕ) → HaveAnchors sizes group.newest → LieOnSlots sizes (recovery_slots ready) (recovery_updates ready)
  recovery_lies sizes have = lies_by sizes have ready.recovery ready.steps refl

  on_seats_by : (next : Option ReadyStep) (steps : List ReadyStep) → ready.recovery ≡ next → (slot : ℕ) → IsOneOf (recovery_slots (record { recovery = next; steps = steps })) slot → IsOneOf (slots_of group.seats) slot
  on_seats_by None steps e slot of = let none = of.is_there in absurd cc
  on_seats_by (Some one) steps e slot of =
      let found = in_map (λ (disk : Seated). disk.seat.slot) (in_order one.step.disks) of.place slot of.is_there in
      let from = order_from one.step.disks of.place found.0 found.1 in
      let among = seat_among group one (rewriting group changes timestamp ready was one e) from.0 found.0 from.1 in
      record { place = among.0; is_there = mapped_at (λ (seat : Seat). seat.slot) group.seats among.0 found.0.seat among.1 ∙ ap (λ (n : ℕ). Some n) found.2 }

  -- They are slots of seats.
  pub recovery_on_seats : (slot : ℕ) → IsOneOf (recovery_slots ready) slot → IsOneOf (slots_of group.seats) slot
  recovery_on_seats slot of = on_seats_by ready.recovery ready.steps refl slot of

  -- ---- that it may be written

  module _ {D : Type 0} (state : BayState D) (held : AreHeldOn state group.newest) (under : StandUnder state group.newest) where
    abbrev sure : BayState D
    sure = synced state (slots_of group.seats)

    holds : HoldsGroup sure group
    holds = synced_holds state group held under

    -- The copy that a slot shows is its newest.
    old_is : (slot : ℕ) (change : SlotChange) → MayGet change.mode sure slot change
        → (newest : Newest) → slice_get group.newest slot ≡ Some (Some newest) → IsNewest newest change.old
    old_is slot change may newest at =
        let is = held slot newest at in
        let can = has_old sure slot change may in
        let anchors : Ok is.anchor ≡ Ok change.anchor = sym is.is_anchored ∙ can.is_anchored in
        let same : is.anchor ≡ change.anchor = cc in
        subst (λ (one : Newest). IsNewest one change.old) (ap (newest_of (size_of state slot) (state.held slot)) (sym same) ∙ is.is_newest) can.is_newest

    may_by : (next : Option ReadyStep) (steps : List ReadyStep) → ready.recovery ≡ next → MayRecover state group (record { recovery = next; steps = steps })
    may_by None steps e = record {
      seat = λ place. no_change;
      may_change = record { may_change = λ place slot at. absurd cc; are_prepared = λ place update at. absurd cc };
      news = λ place disk at. absurd cc;
      olds = λ place slot newest at found. absurd cc;
    }
    may_by (Some one) steps e =
        let follows = recovery_follows group changes timestamp ready was one e in
        let replace = replaces group changes timestamp ready was one e in
        let all = may_change_all sure group holds one follows replace in
        record {
          seat = seat_of sure group holds one follows replace;
          may_change = all;
          news = λ place disk at. (seat_is sure group holds one follows replace place disk at).has_new;
          olds = λ place slot newest at found. old_is slot (seat_of sure group holds one follows replace place) (all.may_change place slot at) newest found;
        }

    -- Recovery may be written to disks that hold the group.
    pub may_recover : MayRecover state group ready
    may_recover = may_by ready.recovery ready.steps refl

  -- ---- what the disks hold then

  module _ {D : Type 0} (old new : BayState D) (same_sizes : new.sizes ≡ old.sizes) (held : AreHeldOn old group.newest) (under : StandUnder old group.newest) where
    was_held : HoldsGroup (synced old (slots_of group.seats)) group
    was_held = synced_holds old group held under

    holds_by : (next : Option ReadyStep) (steps : List ReadyStep) → ready.recovery ≡ next → (may : MayRecover old group (record { recovery = next; steps = steps }))
        → AreChanged (synced old (slots_of group.seats)) new (recovery_slots (record { recovery = next; steps = steps })) may.seat (recovery_updates (record { recovery = next; steps = steps }))
        (length (recovery_slots (record { recovery = next; steps = steps })))
        → HoldsGroup new (group_recovered group next)
    holds_by None steps e may changed =
        let all = λ (slot : ℕ). fun_ext (λ (l : ℕ). changed.others slot l (λ place below at. absurd (omega (arith, below)))) in
        record {
          are_held = λ slot newest at. held_still old new same_sizes slot newest (all slot) (held slot newest at);
          are_under = λ slot newest at anchor. under_still old new same_sizes slot newest (all slot) anchor (under slot newest at anchor);
          are_settled = settled_since old new group.seats [] may.seat [] changed;
        }
    holds_by (Some one) steps e may changed =
        let follows = recovery_follows group changes timestamp ready was one e in
        let rewrites = rewriting group changes timestamp ready was one e in
        let settled = settled_since old new group.seats (slots_in (in_order one.step.disks)) may.seat one.updates changed in
        record {
          are_held = after_held group one rise follows rewrites (synced old (slots_of group.seats)) new same_sizes was_held may.seat may.may_change may.news changed;
          are_under = after_under group one rise follows rewrites (synced old (slots_of group.seats)) new same_sizes was_held may.seat may.may_change may.news changed;
          are_settled = λ place seat below at.
              let among = recovered_seat group one rewrites place seat at in
              settled among.0 seat (get_within group.seats seat among.0 among.1) among.1;
        }

    -- They hold the group that was recovered.
    pub recovered_held : (may : MayRecover old group ready)
        → AreChanged (synced old (slots_of group.seats)) new (recovery_slots ready) may.seat (recovery_updates ready) (length (recovery_slots ready))
        → HoldsGroup new (group_recovered group ready.recovery)
    recovered_held may changed = holds_by ready.recovery ready.steps refl may changed

  -- Where there is no recovery they hold it once its seats' slots are synced.
  pub unwritten_held : {D : Type 0} (old new : BayState D) → ready.recovery ≡ None → new.sizes ≡ old.sizes → new.held ≡ old.held → AreHeldOn old group.newest → StandUnder old group.newest
      → AreSettled new group.seats (length group.seats) → HoldsGroup new (group_recovered group ready.recovery)
  unwritten_held old new none same_sizes same_held held under settled =
      subst (λ (next : Option ReadyStep). HoldsGroup new (group_recovered group next)) (sym none) (recovered_holds old new same_sizes same_held group held under settled)

  anchored_by : (sizes : List ℕ) → HaveAnchors sizes group.newest → (next : Option ReadyStep) → ready.recovery ≡ next → HaveAnchors sizes (group_recovered group next).newest
  anchored_by sizes have None e = have
  anchored_by sizes have (Some one) e =
      after_anchored group one rise (recovery_follows group changes timestamp ready was one e) (rewriting group changes timestamp ready was one e) sizes have

  -- Each of its newest copies can be written again then.
  pub recovered_anchored : (sizes : List ℕ) → HaveAnchors sizes group.newest → HaveAnchors sizes (group_recovered group ready.recovery).newest
  recovered_anchored sizes have = anchored_by sizes have ready.recovery refl

  fit_by : (sizes : List ℕ) → SeatsFit sizes group.seats → (next : Option ReadyStep) → ready.recovery ≡ next → SeatsFit sizes (group_recovered group next).seats
  fit_by sizes fit None e = fit
  fit_by sizes fit (Some one) e = λ place seat at.
      let among = recovered_seat group one (rewriting group changes timestamp ready was one e) place seat at in
      fit among.0 seat among.1

  -- Its seats have room for its extents.
  pub recovered_fit : (sizes : List ℕ) → SeatsFit sizes group.seats → SeatsFit sizes (group_recovered group ready.recovery).seats
  recovered_fit sizes fit = fit_by sizes fit ready.recovery refl
