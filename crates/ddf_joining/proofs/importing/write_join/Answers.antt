use Rattle.std.proofs.Common.{◌≡◌, ◌∙◌, List, length, ap, subst, sym, inl, inr, arith}
use Rattle.std.proofs.lemmas.Result.{err_from_is_err_and}
use Rattle.ddf_bay.specs.Moments.{StopsLeave}
use Rattle.ddf_update.specs.Changes.{AreChanged, IsLeftChangingAll, MayChangeAll}
use Rattle.ddf_bay.proofs.Steps.{stops_then, stops_weaken}
use Rattle.ddf_config.specs.declared.seat.Seat.{Seat}
use Rattle.ddf_steps.specs.Committed.{AreSettled, HaveSlots}
use Rattle.ddf_joining.specs.Importing.{join_slots, join_updates}
use Rattle.ddf_joining.specs.JoinValue.{JoinValue}
use Rattle.ddf_steps.specs.Ready.{ReadyStep}
use Rattle.ddf_seats.specs.Seated.{slots_in}
use Rattle.ddf_steps.specs.Steps.{in_order}
use Rattle.ddf_steps.proofs.Synced.{changed_since, leaves_since, left_since, may_all, settled_since}
use Rattle.ddf_joining.proofs.importing.write_join.Goals as goal

pub sync_seats-requires : goal.sync_seats-requires
sync_seats-requires g c =
    let seats : c.items.result.now ≡ c.args.join.joining = c.items.ensures ∙ ap (λ (join : JoinValue). join.joining) c.join.view_is in
    subst (λ (all : List Seat). HaveSlots (g.B.Bay.disks c.args.bay.now).sizes all) (sym seats) c.requires.slots

pub returns-in_err-sync_seats-clause-any_moment : goal.returns-in_err-sync_seats-clause-any_moment
returns-in_err-sync_seats-clause-any_moment g c = λ told seat may. stops_weaken c.sync_seats.ensures.any_moment (λ image left. inl left)

pub returns-in_err-write_step-clause-any_moment : goal.returns-in_err-write_step-clause-any_moment
returns-in_err-write_step-clause-any_moment g c = λ told seat may.
    let seats : c.items.result.now ≡ c.args.join.joining = c.items.ensures ∙ ap (λ (join : JoinValue). join.joining) c.join.view_is in
    let old = g.B.Bay.disks c.args.bay.now in
    let mid = g.B.Bay.disks c.sync_seats.new.bay in
    let sizes = c.in_ok-sync_seats.ensures.spends.same_sizes in
    let held = c.in_ok-sync_seats.ensures.held in
    let keeps = c.in_ok-sync_seats.ensures.left in
    let settled : AreSettled mid c.args.join.joining (length c.args.join.joining) = subst (λ (all : List Seat). AreSettled mid all (length all)) seats c.in_ok-sync_seats.ensures.settled in
    let one : c.join.inside.step ≡ c.args.join.one = ap (λ (join : JoinValue). join.one) c.join.view_is in
    let slots = join_slots c.args.join in
    let updates = join_updates c.args.join in
    let wrote = subst (λ (made : ReadyStep). MayChangeAll mid (slots_in (in_order made.step.disks)) seat made.updates → StopsLeave mid (g.B.Bay.disks c.write_step.new.bay) (IsLeftChangingAll mid (slots_in (in_order made.step.disks)) seat made.updates))
    one (c.write_step.ensures.any_moment told seat) in
    stops_then (stops_weaken c.sync_seats.ensures.any_moment (λ image left. inl left))
    (wrote (may_all old mid c.args.join.joining sizes held keeps settled slots seat updates may))
    (λ image is. inr (left_since old mid c.args.join.joining sizes held keeps settled slots seat updates image is))

pub returns-clause-any_moment : goal.returns-clause-any_moment
returns-clause-any_moment g c = λ told seat may.
    let seats : c.items.result.now ≡ c.args.join.joining = c.items.ensures ∙ ap (λ (join : JoinValue). join.joining) c.join.view_is in
    let old = g.B.Bay.disks c.args.bay.now in
    let mid = g.B.Bay.disks c.sync_seats.new.bay in
    let sizes = c.in_ok-sync_seats.ensures.spends.same_sizes in
    let held = c.in_ok-sync_seats.ensures.held in
    let keeps = c.in_ok-sync_seats.ensures.left in
    let settled : AreSettled mid c.args.join.joining (length c.args.join.joining) = subst (λ (all : List Seat). AreSettled mid all (length all)) seats c.in_ok-sync_seats.ensures.settled in
    let one : c.join.inside.step ≡ c.args.join.one = ap (λ (join : JoinValue). join.one) c.join.view_is in
    let slots = join_slots c.args.join in
    let updates = join_updates c.args.join in
    let wrote = subst (λ (made : ReadyStep). MayChangeAll mid (slots_in (in_order made.step.disks)) seat made.updates → StopsLeave mid (g.B.Bay.disks c.write_step.new.bay) (IsLeftChangingAll mid (slots_in (in_order made.step.disks)) seat made.updates))
    one (c.write_step.ensures.any_moment told seat) in
    stops_then (stops_weaken c.sync_seats.ensures.any_moment (λ image left. inl left))
    (wrote (may_all old mid c.args.join.joining sizes held keeps settled slots seat updates may))
    (λ image is. inr (left_since old mid c.args.join.joining sizes held keeps settled slots seat updates image is))

pub returns-clause-changed : goal.returns-clause-changed
returns-clause-changed g c = λ told seat may.
    let seats : c.items.result.now ≡ c.args.join.joining = c.items.ensures ∙ ap (λ (join : JoinValue). join.joining) c.join.view_is in
    let old = g.B.Bay.disks c.args.bay.now in
    let mid = g.B.Bay.disks c.sync_seats.new.bay in
    let new = g.B.Bay.disks c.write_step.new.bay in
    let sizes = c.in_ok-sync_seats.ensures.spends.same_sizes in
    let held = c.in_ok-sync_seats.ensures.held in
    let keeps = c.in_ok-sync_seats.ensures.left in
    let settled : AreSettled mid c.args.join.joining (length c.args.join.joining) = subst (λ (all : List Seat). AreSettled mid all (length all)) seats c.in_ok-sync_seats.ensures.settled in
    let one : c.join.inside.step ≡ c.args.join.one = ap (λ (join : JoinValue). join.one) c.join.view_is in
    let slots = join_slots c.args.join in
    let updates = join_updates c.args.join in
    let wrote = subst (λ (made : ReadyStep). MayChangeAll mid (slots_in (in_order made.step.disks)) seat made.updates → AreChanged mid new (slots_in (in_order made.step.disks)) seat made.updates (length (slots_in (in_order made.step.disks))))
    one (c.in_ok-write_step.ensures.changed told seat) in
    changed_since old mid c.args.join.joining sizes held keeps settled new slots seat updates (length slots)
    (wrote (may_all old mid c.args.join.joining sizes held keeps settled slots seat updates may))

pub returns-clause-settled : goal.returns-clause-settled
returns-clause-settled g c = λ told seat may.
    let seats : c.items.result.now ≡ c.args.join.joining = c.items.ensures ∙ ap (λ (join : JoinValue). join.joining) c.join.view_is in
    let old = g.B.Bay.disks c.args.bay.now in
    let mid = g.B.Bay.disks c.sync_seats.new.bay in
    let new = g.B.Bay.disks c.write_step.new.bay in
    let sizes = c.in_ok-sync_seats.ensures.spends.same_sizes in
    let held = c.in_ok-sync_seats.ensures.held in
    let keeps = c.in_ok-sync_seats.ensures.left in
    let settled : AreSettled mid c.args.join.joining (length c.args.join.joining) = subst (λ (all : List Seat). AreSettled mid all (length all)) seats c.in_ok-sync_seats.ensures.settled in
    let one : c.join.inside.step ≡ c.args.join.one = ap (λ (join : JoinValue). join.one) c.join.view_is in
    let slots = join_slots c.args.join in
    let updates = join_updates c.args.join in
    let wrote = subst (λ (made : ReadyStep). MayChangeAll mid (slots_in (in_order made.step.disks)) seat made.updates → AreChanged mid new (slots_in (in_order made.step.disks)) seat made.updates (length (slots_in (in_order made.step.disks))))
    one (c.in_ok-write_step.ensures.changed told seat) in
    settled_since old new c.args.join.joining slots seat updates
    (changed_since old mid c.args.join.joining sizes held keeps settled new slots seat updates (length slots)
    (wrote (may_all old mid c.args.join.joining sizes held keeps settled slots seat updates may)))

pub returns-in_err-sync_seats-clause-ends : goal.returns-in_err-sync_seats-clause-ends
returns-in_err-sync_seats-clause-ends g c = λ told seat may.
    let failed = err_from_is_err_and c.from_residual.result c.from_residual.ensures.1 in
    rw failed.1 (inl c.sync_seats.ensures.left)

pub returns-in_err-write_step-clause-ends : goal.returns-in_err-write_step-clause-ends
returns-in_err-write_step-clause-ends g c = λ told seat may.
    let failed = err_from_is_err_and c.from_residual-in_err-write_step.result c.from_residual-in_err-write_step.ensures.1 in
    let seats : c.items.result.now ≡ c.args.join.joining = c.items.ensures ∙ ap (λ (join : JoinValue). join.joining) c.join.view_is in
    let old = g.B.Bay.disks c.args.bay.now in
    let mid = g.B.Bay.disks c.sync_seats.new.bay in
    let new = g.B.Bay.disks c.write_step.new.bay in
    let sizes = c.in_ok-sync_seats.ensures.spends.same_sizes in
    let held = c.in_ok-sync_seats.ensures.held in
    let keeps = c.in_ok-sync_seats.ensures.left in
    let settled : AreSettled mid c.args.join.joining (length c.args.join.joining) = subst (λ (all : List Seat). AreSettled mid all (length all)) seats c.in_ok-sync_seats.ensures.settled in
    let one : c.join.inside.step ≡ c.args.join.one = ap (λ (join : JoinValue). join.one) c.join.view_is in
    let slots = join_slots c.args.join in
    let updates = join_updates c.args.join in
    let wrote = subst (λ (made : ReadyStep). MayChangeAll mid (slots_in (in_order made.step.disks)) seat made.updates → StopsLeave mid new (IsLeftChangingAll mid (slots_in (in_order made.step.disks)) seat made.updates))
    one (c.write_step.ensures.any_moment told seat)
    (may_all old mid c.args.join.joining sizes held keeps settled slots seat updates may) in
    rw failed.1 (leaves_since old mid c.args.join.joining sizes held keeps settled new slots seat updates
    (λ image left. elim (wrote.since mid.moment image (omega arith) ((g.met.B.Bay.told c.write_step.new.bay).counts mid.moment image wrote.later left)) [
      | inl before ↦ inl ((g.met.B.Bay.told c.sync_seats.new.bay).only_now image before)
      | inr changing ↦ inr changing
    ]))
