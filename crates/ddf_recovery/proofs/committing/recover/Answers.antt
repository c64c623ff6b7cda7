use Rattle.std.proofs.Common.{◌≡◌, ◌∙◌, List, length, subst, sym, inl, inr, arith}
use Rattle.std.proofs.lemmas.Result.{err_from_is_err_and}
use Rattle.ddf_bay.specs.Moments.{StopsLeave}
use Rattle.ddf_bay.specs.State.{BayState}
use Rattle.ddf_update.specs.Changes.{AreChanged, IsLeftChangingAll, MayChangeAll}
use Rattle.ddf_bay.proofs.Steps.{keeps_then, left_keeps, stops_then, stops_weaken}
use Rattle.ddf_config.specs.declared.seat.Seat.{Seat}
use Rattle.ddf_steps.specs.Committed.{AreSettled, HaveSlots, IsNotWritten}
use Rattle.ddf_recovery.specs.Committed.{slots_written, updates_written}
use Rattle.ddf_steps.proofs.Synced.{changed_since, leaves_since, left_since, may_all, settled_since}
use Rattle.ddf_recovery.proofs.committing.recover.Goals as goal

-- What isn't written by one call and then by another isn't written by both.
not_written : {D : Type 0} {old mid new : BayState D} → IsNotWritten old mid → IsNotWritten mid new → IsNotWritten old new
not_written {old = old} {mid = mid} first second = record {
  held = second.held ∙ first.held;
  left = keeps_then first.left second.left;
  any_moment = stops_then first.any_moment second.any_moment (λ image left. left_keeps old.may_hold mid.may_hold image first.left left);
}

pub sync_seats-requires : goal.sync_seats-requires
sync_seats-requires g c =
    let seats : c.seats.result.now ≡ c.args.group.now.seats = c.seats.ensures in
    subst (λ (all : List Seat). HaveSlots (g.B.Bay.disks c.args.bay.now).sizes all) (sym seats) c.requires.slots

pub returns-in_err-sync_seats-clause-unwritten : goal.returns-in_err-sync_seats-clause-unwritten
returns-in_err-sync_seats-clause-unwritten g c = λ none. record { held = c.sync_seats.ensures.held; left = c.sync_seats.ensures.left; any_moment = c.sync_seats.ensures.any_moment }

pub returns-in_err-write_recovery-clause-unwritten : goal.returns-in_err-write_recovery-clause-unwritten
returns-in_err-write_recovery-clause-unwritten g c = λ none.
    not_written
    (record { held = c.sync_seats.ensures.held; left = c.sync_seats.ensures.left; any_moment = c.sync_seats.ensures.any_moment })
    (c.write_recovery.ensures.unwritten (c.take_recovery-next.ensures.next ∙ none))

pub returns-clause-unwritten : goal.returns-clause-unwritten
returns-clause-unwritten g c = λ none.
    not_written
    (record { held = c.sync_seats.ensures.held; left = c.sync_seats.ensures.left; any_moment = c.sync_seats.ensures.any_moment })
    (c.write_recovery.ensures.unwritten (c.take_recovery-next.ensures.next ∙ none))

pub returns-in_err-sync_seats-clause-any_moment : goal.returns-in_err-sync_seats-clause-any_moment
returns-in_err-sync_seats-clause-any_moment g c = λ told seat may. stops_weaken c.sync_seats.ensures.any_moment (λ image left. inl left)

pub returns-in_err-write_recovery-clause-any_moment : goal.returns-in_err-write_recovery-clause-any_moment
returns-in_err-write_recovery-clause-any_moment g c = λ told seat may.
    let seats : c.seats.result.now ≡ c.args.group.now.seats = c.seats.ensures in
    let old = g.B.Bay.disks c.args.bay.now in
    let mid = g.B.Bay.disks c.sync_seats.new.bay in
    let sizes = c.in_ok-sync_seats.ensures.spends.same_sizes in
    let held = c.in_ok-sync_seats.ensures.held in
    let keeps = c.in_ok-sync_seats.ensures.left in
    let settled : AreSettled mid c.args.group.now.seats (length c.args.group.now.seats) = subst (λ (all : List Seat). AreSettled mid all (length all)) seats c.in_ok-sync_seats.ensures.settled in
    let next = c.args.ready.now.recovery in
    let wrote = subst (λ (made : _). MayChangeAll mid (slots_written made) seat (updates_written made) → StopsLeave mid (g.B.Bay.disks c.write_recovery.new.bay) (IsLeftChangingAll mid (slots_written made) seat (updates_written made)))
    c.take_recovery-next.ensures.next (c.write_recovery.ensures.any_moment told seat) in
    stops_then (stops_weaken c.sync_seats.ensures.any_moment (λ image left. inl left))
    (wrote (may_all old mid c.args.group.now.seats sizes held keeps settled (slots_written next) seat (updates_written next) may))
    (λ image is. inr (left_since old mid c.args.group.now.seats sizes held keeps settled (slots_written next) seat (updates_written next) image is))

pub returns-clause-any_moment : goal.returns-clause-any_moment
returns-clause-any_moment g c = λ told seat may.
    let seats : c.seats.result.now ≡ c.args.group.now.seats = c.seats.ensures in
    let old = g.B.Bay.disks c.args.bay.now in
    let mid = g.B.Bay.disks c.sync_seats.new.bay in
    let sizes = c.in_ok-sync_seats.ensures.spends.same_sizes in
    let held = c.in_ok-sync_seats.ensures.held in
    let keeps = c.in_ok-sync_seats.ensures.left in
    let settled : AreSettled mid c.args.group.now.seats (length c.args.group.now.seats) = subst (λ (all : List Seat). AreSettled mid all (length all)) seats c.in_ok-sync_seats.ensures.settled in
    let next = c.args.ready.now.recovery in
    let wrote = subst (λ (made : _). MayChangeAll mid (slots_written made) seat (updates_written made) → StopsLeave mid (g.B.Bay.disks c.write_recovery.new.bay) (IsLeftChangingAll mid (slots_written made) seat (updates_written made)))
    c.take_recovery-next.ensures.next (c.write_recovery.ensures.any_moment told seat) in
    stops_then (stops_weaken c.sync_seats.ensures.any_moment (λ image left. inl left))
    (wrote (may_all old mid c.args.group.now.seats sizes held keeps settled (slots_written next) seat (updates_written next) may))
    (λ image is. inr (left_since old mid c.args.group.now.seats sizes held keeps settled (slots_written next) seat (updates_written next) image is))

pub returns-clause-changed : goal.returns-clause-changed
returns-clause-changed g c = λ told seat may.
    let seats : c.seats.result.now ≡ c.args.group.now.seats = c.seats.ensures in
    let old = g.B.Bay.disks c.args.bay.now in
    let mid = g.B.Bay.disks c.sync_seats.new.bay in
    let new = g.B.Bay.disks c.write_recovery.new.bay in
    let sizes = c.in_ok-sync_seats.ensures.spends.same_sizes in
    let held = c.in_ok-sync_seats.ensures.held in
    let keeps = c.in_ok-sync_seats.ensures.left in
    let settled : AreSettled mid c.args.group.now.seats (length c.args.group.now.seats) = subst (λ (all : List Seat). AreSettled mid all (length all)) seats c.in_ok-sync_seats.ensures.settled in
    let next = c.args.ready.now.recovery in
    let wrote = subst (λ (made : _). MayChangeAll mid (slots_written made) seat (updates_written made) → AreChanged mid new (slots_written made) seat (updates_written made) (length (slots_written made)))
    c.take_recovery-next.ensures.next (c.in_ok-write_recovery.ensures.changed told seat) in
    changed_since old mid c.args.group.now.seats sizes held keeps settled new (slots_written next) seat (updates_written next) (length (slots_written next))
    (wrote (may_all old mid c.args.group.now.seats sizes held keeps settled (slots_written next) seat (updates_written next) may))

pub returns-clause-settled : goal.returns-clause-settled
returns-clause-settled g c = λ told seat may.
    let seats : c.seats.result.now ≡ c.args.group.now.seats = c.seats.ensures in
    let old = g.B.Bay.disks c.args.bay.now in
    let mid = g.B.Bay.disks c.sync_seats.new.bay in
    let new = g.B.Bay.disks c.write_recovery.new.bay in
    let sizes = c.in_ok-sync_seats.ensures.spends.same_sizes in
    let held = c.in_ok-sync_seats.ensures.held in
    let keeps = c.in_ok-sync_seats.ensures.left in
    let settled : AreSettled mid c.args.group.now.seats (length c.args.group.now.seats) = subst (λ (all : List Seat). AreSettled mid all (length all)) seats c.in_ok-sync_seats.ensures.settled in
    let next = c.args.ready.now.recovery in
    let wrote = subst (λ (made : _). MayChangeAll mid (slots_written made) seat (updates_written made) → AreChanged mid new (slots_written made) seat (updates_written made) (length (slots_written made)))
    c.take_recovery-next.ensures.next (c.in_ok-write_recovery.ensures.changed told seat) in
    settled_since old new c.args.group.now.seats (slots_written next) seat (updates_written next)
    (changed_since old mid c.args.group.now.seats sizes held keeps settled new (slots_written next) seat (updates_written next) (length (slots_written next))
    (wrote (may_all old mid c.args.group.now.seats sizes held keeps settled (slots_written next) seat (updates_written next) may)))

pub returns-in_err-sync_seats-clause-ends : goal.returns-in_err-sync_seats-clause-ends
returns-in_err-sync_seats-clause-ends g c = λ told seat may.
    let failed = err_from_is_err_and c.from_residual.result c.from_residual.ensures.1 in
    rw failed.1 (inl c.sync_seats.ensures.left)

pub returns-in_err-write_recovery-clause-ends : goal.returns-in_err-write_recovery-clause-ends
returns-in_err-write_recovery-clause-ends g c = λ told seat may.
    let failed = err_from_is_err_and c.from_residual-in_err-write_recovery.result c.from_residual-in_err-write_recovery.ensures.1 in
    let seats : c.seats.result.now ≡ c.args.group.now.seats = c.seats.ensures in
    let old = g.B.Bay.disks c.args.bay.now in
    let mid = g.B.Bay.disks c.sync_seats.new.bay in
    let new = g.B.Bay.disks c.write_recovery.new.bay in
    let sizes = c.in_ok-sync_seats.ensures.spends.same_sizes in
    let held = c.in_ok-sync_seats.ensures.held in
    let keeps = c.in_ok-sync_seats.ensures.left in
    let settled : AreSettled mid c.args.group.now.seats (length c.args.group.now.seats) = subst (λ (all : List Seat). AreSettled mid all (length all)) seats c.in_ok-sync_seats.ensures.settled in
    let next = c.args.ready.now.recovery in
    let wrote = subst (λ (made : _). MayChangeAll mid (slots_written made) seat (updates_written made) → StopsLeave mid new (IsLeftChangingAll mid (slots_written made) seat (updates_written made)))
    c.take_recovery-next.ensures.next (c.write_recovery.ensures.any_moment told seat)
    (may_all old mid c.args.group.now.seats sizes held keeps settled (slots_written next) seat (updates_written next) may) in
    rw failed.1 (leaves_since old mid c.args.group.now.seats sizes held keeps settled new (slots_written next) seat (updates_written next)
    (λ image left. elim (wrote.since mid.moment image (omega arith) ((g.met.B.Bay.told c.write_recovery.new.bay).counts mid.moment image wrote.later left)) [
      | inl before ↦ inl ((g.met.B.Bay.told c.sync_seats.new.bay).only_now image before)
      | inr changing ↦ inr changing
    ]))
