use Rattle.std.proofs.Common.{◌≡◌, ◌∙◌, ℕ, None, Err, ap, subst, sym}
use Rattle.std.proofs.lemmas.Result.{err_from_is_err_and}
use Rattle.ddf_config.specs.Configuration.{Configuration}
use Rattle.ddf_bay.specs.Moments.{StopsLeave}
use Rattle.ddf_bay.proofs.Looks.{reads_start}
use Rattle.ddf_update.specs.Changes.{IsLeftChangingAll, MayChangeAll, SlotChange}
use Rattle.ddf_update.specs.Group.{IsOneOf, LieOnSlots}
use Rattle.ddf_recovery.specs.Committed.{group_next, group_recovered, next_slots, next_updates}
use Rattle.ddf_steps.specs.Committed.{slots_of}
use Rattle.ddf_seats.specs.Group.{GroupValue}
use Rattle.ddf_recovery.specs.Ready.{ReadyValue, readied}
use Rattle.ddf_answer.specs.Call.{work_of}
use Rattle.ddf_answer.specs.declared.failure.Failure.{Failure}
use Rattle.ddf_group_commands.specs.Change.{IsChanged, steps_or}
use Rattle.ddf_group_commands.proofs.Outcomes.{not_readied}
use Rattle.ddf_group_commands.proofs.Recovering.{Commits, commit_failed, done_to, first_lies, recover_failed, rest_lies, slots_there, was_readied}
use Rattle.ddf_recovery.proofs.Committed.{may_write_next}
use Rattle.ddf_recovery.proofs.RecoveredGroup.{recovered_ready}
use Rattle.ddf_recovery.proofs.RecoveryWritten.{may_recover, recovered_held}
use Rattle.ddf_group_commands.proofs.Costs.{commit_costs, none_asked_cost, readied_costs, recovery_costs}
use Rattle.ddf_group_commands.proofs.FewCalls.{committed_few, recovered_few}
use Rattle.ddf_group_commands.proofs.Beside.{commit_beside, reads_beside, recovery_beside}
use Rattle.ddf_group_commands.proofs.Keeping.{Tells, commit_keeps, done_keeps, reads_keep, reads_true, recover_keeps}
use Rattle.ddf_group_commands.proofs.LeftWriting.{commit_leaves, reads_leave, recover_leaves}
use Rattle.ddf_group_commands.proofs.StepsWritten.{none_asked}
use Rattle.ddf_group_commands.proofs.writing.write_changes.Goals as goal

pub recover-requires-clause-slots : goal.recover-requires-clause-slots
recover-requires-clause-slots g c =
    let made = c.in-Ok.ensures in
    let was = was_readied c.args.group.now c.args.changes.now c.args.timestamp c.in-Ok.ready c.requires.from.assembled c.ranges.timestamp.fits made.readied made.recovery made.recovers made.follows in
    slots_there g.B.Bay.tells (g.B.Bay.disks c.args.bay.now) c.args.group.now c.args.changes.now c.args.timestamp c.in-Ok.ready c.requires.from was

pub recover-requires-clause-lies : goal.recover-requires-clause-lies
recover-requires-clause-lies g c =
    let made = c.in-Ok.ensures in
    let was = was_readied c.args.group.now c.args.changes.now c.args.timestamp c.in-Ok.ready c.requires.from.assembled c.ranges.timestamp.fits made.readied made.recovery made.recovers made.follows in
    first_lies g.B.Bay.tells (g.B.Bay.disks c.args.bay.now) c.args.group.now c.args.changes.now c.args.timestamp c.in-Ok.ready c.requires.from was

pub returns-in_err-recover-clause-changed : goal.returns-in_err-recover-clause-changed
returns-in_err-recover-clause-changed g c =
    let failed = err_from_is_err_and c.from_residual.result c.from_residual.ensures.1 in
    let made = c.in-Ok.ensures in
    let was = was_readied c.args.group.now c.args.changes.now c.args.timestamp c.in-Ok.ready c.requires.from.assembled c.ranges.timestamp.fits made.readied made.recovery made.recovers made.follows in
    let fault = c.in_err-recover.ensures.failed in
    rw (failed.1, failed.2)
    (recover_failed g.B.Bay.tells (g.B.Bay.disks c.args.bay.now) c.args.group.now c.args.changes.now c.args.timestamp c.in-Ok.ready c.requires.from was
    (g.B.Bay.disks c.recover.new.bay) c.in_err-recover.field-0.0.0 fault.0 fault.1)

pub commit-requires : goal.commit-requires
commit-requires g c =
    let made = c.in-Ok.ensures in
    let was = was_readied c.args.group.now c.args.changes.now c.args.timestamp c.in-Ok.ready c.requires.from.assembled c.ranges.timestamp.fits made.readied made.recovery made.recovers made.follows in
    let lies = rest_lies g.B.Bay.tells (g.B.Bay.disks c.args.bay.now) c.args.group.now c.args.changes.now c.args.timestamp c.in-Ok.ready c.requires.from was in
    subst (λ (one : ReadyValue). LieOnSlots (g.B.Bay.disks c.recover.new.bay).sizes (next_slots one) (next_updates one)) (sym c.recover.ensures.left)
    (rw c.recover.ensures.spends.same_sizes lies)

pub returns-in_err-commit-clause-changed : goal.returns-in_err-commit-clause-changed
returns-in_err-commit-clause-changed g c =
    let failed = err_from_is_err_and c.from_residual-in_err-commit.result c.from_residual-in_err-commit.ensures.1 in
    let made = c.in-Ok.ensures in
    let was = was_readied c.args.group.now c.args.changes.now c.args.timestamp c.in-Ok.ready c.requires.from.assembled c.ranges.timestamp.fits made.readied made.recovery made.recovers made.follows in
    let fault = c.in_err-commit.ensures.failed in
    let one = subst (λ (left : ReadyValue). IsOneOf (next_slots left) c.in_err-commit.field-0.0.0) c.recover.ensures.left fault.0 in
    rw (failed.1, failed.2)
    (commit_failed g.B.Bay.tells (g.B.Bay.disks c.args.bay.now) c.args.group.now c.args.changes.now c.args.timestamp c.in-Ok.ready c.requires.from was
    (g.B.Bay.disks c.recover.new.bay) (g.B.Bay.disks c.commit.new.bay) c.in_err-commit.field-0.0.0 one c.in_ok-recover.ensures.ok fault.1)

pub returns-clause-changed : goal.returns-clause-changed
returns-clause-changed g c =
    let old = g.B.Bay.disks c.args.bay.now in
    let middle = g.B.Bay.disks c.recover.new.bay in
    let new = g.B.Bay.disks c.commit.new.bay in
    let group = c.args.group.now in
    let ready = c.in-Ok.ready in
    let made = c.in-Ok.ensures in
    let was = was_readied group c.args.changes.now c.args.timestamp ready c.requires.from.assembled c.ranges.timestamp.fits made.readied made.recovery made.recovers made.follows in
    let rest : ReadyValue = record { recovery = None; steps = ready.steps } in
    let asked = none_asked old middle new _ _ ready.recovery ready.steps c.recover.ensures.spends.costs (rw c.recover.ensures.left at c.commit.ensures.spends.costs) in
    let done = done_to g.B.Bay.tells old group c.args.changes.now c.args.timestamp ready c.requires.from was c.requires.one middle new c.recover.ensures.spends.same_sizes
    c.in_ok-recover.ensures.changed c.in_ok-recover.ensures.settled
    (λ told. subst (λ (one : ReadyValue). Commits middle new one) c.recover.ensures.left (c.in_ok-commit.ensures.changed told)) asked in
    let same : c.behind-group.inside.sequence ≡ (group_next (group_recovered group ready.recovery) rest).config.sequence =
    ap (λ (config : Configuration). config.sequence) (c.behind-group.view_is ∙ c.config.ensures)
    ∙ ap (λ (one : GroupValue). one.config.sequence) c.in_ok-commit.ensures.group
    ∙ ap (λ (one : GroupValue). (group_next one c.recover.new.ready).config.sequence) c.in_ok-recover.ensures.group
    ∙ ap (λ (one : ReadyValue). (group_next (group_recovered group ready.recovery) one).config.sequence) c.recover.ensures.left in
    rw same done

pub returns-in-Err-clause-changed : goal.returns-in-Err-clause-changed
returns-in-Err-clause-changed g c =
    let old = g.B.Bay.disks c.args.bay.now in
    let group = c.args.group.now in
    subst (λ (failure : Failure). IsChanged (work_of g.B.Bay.tells old old) group (steps_or (readied group c.args.changes.now c.args.timestamp)) (Err failure)) (sym c.failure_of.ensures)
    (not_readied (work_of g.B.Bay.tells old old) group _ c.in-Err.fault c.in-Err.ensures.readied (reads_start old))

pub returns-in-Err-clause-keeps : goal.returns-in-Err-clause-keeps
returns-in-Err-clause-keeps g c = λ told left named by steps asked.
    reads_keep (g.B.Bay.disks c.args.bay.now) (g.B.Bay.disks c.args.bay.now) left c.args.group.now steps (reads_start (g.B.Bay.disks c.args.bay.now))

pub returns-in_err-recover-clause-keeps : goal.returns-in_err-recover-clause-keeps
returns-in_err-recover-clause-keeps g c = λ told left named by steps asked.
    let failed = err_from_is_err_and c.from_residual.result c.from_residual.ensures.1 in
    let old = g.B.Bay.disks c.args.bay.now in
    let middle = g.B.Bay.disks c.recover.new.bay in
    let made = c.in-Ok.ensures in
    let was = was_readied c.args.group.now c.args.changes.now c.args.timestamp c.in-Ok.ready c.requires.from.assembled c.ranges.timestamp.fits made.readied made.recovery made.recovers made.follows in
    let tell : Tells old middle = record {
      told = (g.met.B.Bay.told c.recover.new.bay).since;
      counts = (g.met.B.Bay.told c.recover.new.bay).counts;
      back = c.recover.ensures.spends.told;
      held = (g.met.B.Bay.told c.recover.new.bay).held;
    } in
    rw failed.1
    (λ group same past kept admitted.
    recover_keeps g.B.Bay.tells old c.args.group.now c.args.changes.now c.args.timestamp c.in-Ok.ready c.requires.from was c.requires.asked c.requires.one told
    (reads_true old ((g.met.B.Bay.told c.args.bay.now).held) ((g.met.B.Bay.told c.args.bay.now).whole)) left named by steps asked group same past kept admitted middle c.recover.ensures.spends.same_sizes (c.recover.ensures.any_moment told) tell
    (c.in_err-recover.ensures.ends told))

pub returns-in_err-commit-clause-keeps : goal.returns-in_err-commit-clause-keeps
returns-in_err-commit-clause-keeps g c = λ told left named by steps asked.
    let failed = err_from_is_err_and c.from_residual-in_err-commit.result c.from_residual-in_err-commit.ensures.1 in
    let old = g.B.Bay.disks c.args.bay.now in
    let middle = g.B.Bay.disks c.recover.new.bay in
    let new = g.B.Bay.disks c.commit.new.bay in
    let made = c.in-Ok.ensures in
    let was = was_readied c.args.group.now c.args.changes.now c.args.timestamp c.in-Ok.ready c.requires.from.assembled c.ranges.timestamp.fits made.readied made.recovery made.recovers made.follows in
    let tell : Tells old middle = record {
      told = (g.met.B.Bay.told c.recover.new.bay).since;
      counts = (g.met.B.Bay.told c.recover.new.bay).counts;
      back = c.recover.ensures.spends.told;
      held = (g.met.B.Bay.told c.recover.new.bay).held;
    } in
    let tell_new : Tells middle new = record {
      told = (g.met.B.Bay.told c.commit.new.bay).since;
      counts = (g.met.B.Bay.told c.commit.new.bay).counts;
      back = c.commit.ensures.spends.told;
      held = (g.met.B.Bay.told c.commit.new.bay).held;
    } in
    let next = subst (λ (one : ReadyValue). (seat : ℕ → SlotChange) → MayChangeAll middle (next_slots one) seat (next_updates one) → StopsLeave middle new (IsLeftChangingAll middle (next_slots one) seat (next_updates one)))
    c.recover.ensures.left (c.commit.ensures.any_moment told) in
    rw failed.1
    (λ group same past kept admitted.
    commit_keeps g.B.Bay.tells old c.args.group.now c.args.changes.now c.args.timestamp c.in-Ok.ready c.requires.from was c.requires.asked c.requires.one told
    (reads_true old ((g.met.B.Bay.told c.args.bay.now).held) ((g.met.B.Bay.told c.args.bay.now).whole)) left named by steps asked group same past kept admitted middle c.recover.ensures.spends.same_sizes (c.recover.ensures.any_moment told) tell
    (c.in_ok-recover.ensures.changed told) (c.in_ok-recover.ensures.settled told) new c.commit.ensures.spends.same_sizes next tell_new ((g.met.B.Bay.told c.recover.new.bay).only_now))

pub returns-clause-keeps : goal.returns-clause-keeps
returns-clause-keeps g c = λ told left named by steps asked group same past kept admitted.
    let old = g.B.Bay.disks c.args.bay.now in
    let middle = g.B.Bay.disks c.recover.new.bay in
    let new = g.B.Bay.disks c.commit.new.bay in
    let made = c.in-Ok.ensures in
    let was = was_readied c.args.group.now c.args.changes.now c.args.timestamp c.in-Ok.ready c.requires.from.assembled c.ranges.timestamp.fits made.readied made.recovery made.recovers made.follows in
    let tell : Tells old middle = record {
      told = (g.met.B.Bay.told c.recover.new.bay).since;
      counts = (g.met.B.Bay.told c.recover.new.bay).counts;
      back = c.recover.ensures.spends.told;
      held = (g.met.B.Bay.told c.recover.new.bay).held;
    } in
    let tell_new : Tells middle new = record {
      told = (g.met.B.Bay.told c.commit.new.bay).since;
      counts = (g.met.B.Bay.told c.commit.new.bay).counts;
      back = c.commit.ensures.spends.told;
      held = (g.met.B.Bay.told c.commit.new.bay).held;
    } in
    let next = subst (λ (one : ReadyValue). (seat : ℕ → SlotChange) → MayChangeAll middle (next_slots one) seat (next_updates one) → StopsLeave middle new (IsLeftChangingAll middle (next_slots one) seat (next_updates one)))
    c.recover.ensures.left (c.commit.ensures.any_moment told) in
    done_keeps g.B.Bay.tells old c.args.group.now c.args.changes.now c.args.timestamp c.in-Ok.ready c.requires.from was c.requires.asked c.requires.one told
    (reads_true old ((g.met.B.Bay.told c.args.bay.now).held) ((g.met.B.Bay.told c.args.bay.now).whole)) left named by steps asked group same past kept admitted middle c.recover.ensures.spends.same_sizes (c.recover.ensures.any_moment told) tell
    (c.in_ok-recover.ensures.changed told) (c.in_ok-recover.ensures.settled told) new c.commit.ensures.spends.same_sizes next tell_new ((g.met.B.Bay.told c.recover.new.bay).only_now)
    (subst (λ (one : ReadyValue). Commits middle new one) c.recover.ensures.left (c.in_ok-commit.ensures.changed told))

pub returns-in-Err-clause-beside : goal.returns-in-Err-clause-beside
returns-in-Err-clause-beside g c = λ told.
    reads_beside (g.B.Bay.disks c.args.bay.now) (g.B.Bay.disks c.args.bay.now) (slots_of c.args.group.now.seats) (reads_start (g.B.Bay.disks c.args.bay.now))

pub returns-in_err-recover-clause-beside : goal.returns-in_err-recover-clause-beside
returns-in_err-recover-clause-beside g c = λ told.
    let old = g.B.Bay.disks c.args.bay.now in
    let middle = g.B.Bay.disks c.recover.new.bay in
    let made = c.in-Ok.ensures in
    let was = was_readied c.args.group.now c.args.changes.now c.args.timestamp c.in-Ok.ready c.requires.from.assembled c.ranges.timestamp.fits made.readied made.recovery made.recovers made.follows in
    let may = may_recover c.args.group.now c.args.changes.now c.args.timestamp c.in-Ok.ready was old (c.requires.from.held told) (c.requires.from.stand told) in
    let moments = c.recover.ensures.any_moment told may.seat may.may_change in
    recovery_beside g.B.Bay.tells old c.args.group.now c.args.changes.now c.args.timestamp c.in-Ok.ready c.requires.from was may middle moments

pub returns-in_err-commit-clause-beside : goal.returns-in_err-commit-clause-beside
returns-in_err-commit-clause-beside g c = λ told.
    let old = g.B.Bay.disks c.args.bay.now in
    let middle = g.B.Bay.disks c.recover.new.bay in
    let made = c.in-Ok.ensures in
    let was = was_readied c.args.group.now c.args.changes.now c.args.timestamp c.in-Ok.ready c.requires.from.assembled c.ranges.timestamp.fits made.readied made.recovery made.recovers made.follows in
    let may = may_recover c.args.group.now c.args.changes.now c.args.timestamp c.in-Ok.ready was old (c.requires.from.held told) (c.requires.from.stand told) in
    let moments = c.recover.ensures.any_moment told may.seat may.may_change in
    let new = g.B.Bay.disks c.commit.new.bay in
    let first = c.in_ok-recover.ensures.changed told may.seat may.may_change in
    let rest : ReadyValue = record { recovery = None; steps = c.in-Ok.ready.steps } in
    let may_rest = may_write_next middle (group_recovered c.args.group.now c.in-Ok.ready.recovery) rest
    (recovered_held c.args.group.now c.args.changes.now c.args.timestamp c.in-Ok.ready was old middle c.recover.ensures.spends.same_sizes (c.requires.from.held told) (c.requires.from.stand told) may first) (recovered_ready c.args.group.now c.args.changes.now c.args.timestamp c.in-Ok.ready was) in
    let next = subst (λ (one : ReadyValue). (seat : ℕ → SlotChange) → MayChangeAll middle (next_slots one) seat (next_updates one) → StopsLeave middle new (IsLeftChangingAll middle (next_slots one) seat (next_updates one)))
    c.recover.ensures.left (c.commit.ensures.any_moment told) in
    commit_beside g.B.Bay.tells old c.args.group.now c.args.changes.now c.args.timestamp c.in-Ok.ready c.requires.from was may middle moments first may_rest.seat new (next may_rest.seat may_rest.may_change)

pub returns-clause-beside : goal.returns-clause-beside
returns-clause-beside g c = λ told.
    let old = g.B.Bay.disks c.args.bay.now in
    let middle = g.B.Bay.disks c.recover.new.bay in
    let made = c.in-Ok.ensures in
    let was = was_readied c.args.group.now c.args.changes.now c.args.timestamp c.in-Ok.ready c.requires.from.assembled c.ranges.timestamp.fits made.readied made.recovery made.recovers made.follows in
    let may = may_recover c.args.group.now c.args.changes.now c.args.timestamp c.in-Ok.ready was old (c.requires.from.held told) (c.requires.from.stand told) in
    let moments = c.recover.ensures.any_moment told may.seat may.may_change in
    let new = g.B.Bay.disks c.commit.new.bay in
    let first = c.in_ok-recover.ensures.changed told may.seat may.may_change in
    let rest : ReadyValue = record { recovery = None; steps = c.in-Ok.ready.steps } in
    let may_rest = may_write_next middle (group_recovered c.args.group.now c.in-Ok.ready.recovery) rest
    (recovered_held c.args.group.now c.args.changes.now c.args.timestamp c.in-Ok.ready was old middle c.recover.ensures.spends.same_sizes (c.requires.from.held told) (c.requires.from.stand told) may first) (recovered_ready c.args.group.now c.args.changes.now c.args.timestamp c.in-Ok.ready was) in
    let next = subst (λ (one : ReadyValue). (seat : ℕ → SlotChange) → MayChangeAll middle (next_slots one) seat (next_updates one) → StopsLeave middle new (IsLeftChangingAll middle (next_slots one) seat (next_updates one)))
    c.recover.ensures.left (c.commit.ensures.any_moment told) in
    commit_beside g.B.Bay.tells old c.args.group.now c.args.changes.now c.args.timestamp c.in-Ok.ready c.requires.from was may middle moments first may_rest.seat new (next may_rest.seat may_rest.may_change)

pub returns-in-Err-clause-leaves : goal.returns-in-Err-clause-leaves
returns-in-Err-clause-leaves g c = λ told steps asked. reads_leave (g.B.Bay.disks c.args.bay.now) (g.B.Bay.disks c.args.bay.now) steps (reads_start (g.B.Bay.disks c.args.bay.now))

pub returns-in_err-recover-clause-leaves : goal.returns-in_err-recover-clause-leaves
returns-in_err-recover-clause-leaves g c = λ told steps asked.
    let old = g.B.Bay.disks c.args.bay.now in
    let middle = g.B.Bay.disks c.recover.new.bay in
    let made = c.in-Ok.ensures in
    let was = was_readied c.args.group.now c.args.changes.now c.args.timestamp c.in-Ok.ready c.requires.from.assembled c.ranges.timestamp.fits made.readied made.recovery made.recovers made.follows in
    let tell : Tells old middle = record {
      told = (g.met.B.Bay.told c.recover.new.bay).since;
      counts = (g.met.B.Bay.told c.recover.new.bay).counts;
      back = c.recover.ensures.spends.told;
      held = (g.met.B.Bay.told c.recover.new.bay).held;
    } in
    recover_leaves g.B.Bay.tells old c.args.group.now c.args.changes.now c.args.timestamp c.in-Ok.ready c.requires.from was told
    (reads_true old ((g.met.B.Bay.told c.args.bay.now).held) ((g.met.B.Bay.told c.args.bay.now).whole)) ((g.met.B.Bay.told c.args.bay.now).only_now) steps asked middle c.recover.ensures.spends.same_sizes (c.recover.ensures.any_moment told) tell

pub returns-in_err-commit-clause-leaves : goal.returns-in_err-commit-clause-leaves
returns-in_err-commit-clause-leaves g c = λ told steps asked.
    let old = g.B.Bay.disks c.args.bay.now in
    let middle = g.B.Bay.disks c.recover.new.bay in
    let new = g.B.Bay.disks c.commit.new.bay in
    let made = c.in-Ok.ensures in
    let was = was_readied c.args.group.now c.args.changes.now c.args.timestamp c.in-Ok.ready c.requires.from.assembled c.ranges.timestamp.fits made.readied made.recovery made.recovers made.follows in
    let tell : Tells old middle = record {
      told = (g.met.B.Bay.told c.recover.new.bay).since;
      counts = (g.met.B.Bay.told c.recover.new.bay).counts;
      back = c.recover.ensures.spends.told;
      held = (g.met.B.Bay.told c.recover.new.bay).held;
    } in
    let tell_new : Tells middle new = record {
      told = (g.met.B.Bay.told c.commit.new.bay).since;
      counts = (g.met.B.Bay.told c.commit.new.bay).counts;
      back = c.commit.ensures.spends.told;
      held = (g.met.B.Bay.told c.commit.new.bay).held;
    } in
    let next = subst (λ (one : ReadyValue). (seat : ℕ → SlotChange) → MayChangeAll middle (next_slots one) seat (next_updates one) → StopsLeave middle new (IsLeftChangingAll middle (next_slots one) seat (next_updates one)))
    c.recover.ensures.left (c.commit.ensures.any_moment told) in
    let rest : ReadyValue = record { recovery = None; steps = c.in-Ok.ready.steps } in
    let may = may_recover c.args.group.now c.args.changes.now c.args.timestamp c.in-Ok.ready was old (c.requires.from.held told) (c.requires.from.stand told) in
    let held = recovered_held c.args.group.now c.args.changes.now c.args.timestamp c.in-Ok.ready was old middle c.recover.ensures.spends.same_sizes (c.requires.from.held told) (c.requires.from.stand told)
    may (c.in_ok-recover.ensures.changed told may.seat may.may_change) in
    let can = may_write_next middle (group_recovered c.args.group.now c.in-Ok.ready.recovery) rest held (recovered_ready c.args.group.now c.args.changes.now c.args.timestamp c.in-Ok.ready was) in
    commit_leaves g.B.Bay.tells old c.args.group.now c.args.changes.now c.args.timestamp c.in-Ok.ready c.requires.from was told
    (reads_true old ((g.met.B.Bay.told c.args.bay.now).held) ((g.met.B.Bay.told c.args.bay.now).whole)) ((g.met.B.Bay.told c.args.bay.now).only_now) steps asked middle c.recover.ensures.spends.same_sizes (c.recover.ensures.any_moment told) tell
    can (reads_true middle ((g.met.B.Bay.told c.recover.new.bay).held) ((g.met.B.Bay.told c.recover.new.bay).whole)) new next tell_new

pub returns-clause-leaves : goal.returns-clause-leaves
returns-clause-leaves g c = λ told steps asked.
    let old = g.B.Bay.disks c.args.bay.now in
    let middle = g.B.Bay.disks c.recover.new.bay in
    let new = g.B.Bay.disks c.commit.new.bay in
    let made = c.in-Ok.ensures in
    let was = was_readied c.args.group.now c.args.changes.now c.args.timestamp c.in-Ok.ready c.requires.from.assembled c.ranges.timestamp.fits made.readied made.recovery made.recovers made.follows in
    let tell : Tells old middle = record {
      told = (g.met.B.Bay.told c.recover.new.bay).since;
      counts = (g.met.B.Bay.told c.recover.new.bay).counts;
      back = c.recover.ensures.spends.told;
      held = (g.met.B.Bay.told c.recover.new.bay).held;
    } in
    let tell_new : Tells middle new = record {
      told = (g.met.B.Bay.told c.commit.new.bay).since;
      counts = (g.met.B.Bay.told c.commit.new.bay).counts;
      back = c.commit.ensures.spends.told;
      held = (g.met.B.Bay.told c.commit.new.bay).held;
    } in
    let next = subst (λ (one : ReadyValue). (seat : ℕ → SlotChange) → MayChangeAll middle (next_slots one) seat (next_updates one) → StopsLeave middle new (IsLeftChangingAll middle (next_slots one) seat (next_updates one)))
    c.recover.ensures.left (c.commit.ensures.any_moment told) in
    let rest : ReadyValue = record { recovery = None; steps = c.in-Ok.ready.steps } in
    let may = may_recover c.args.group.now c.args.changes.now c.args.timestamp c.in-Ok.ready was old (c.requires.from.held told) (c.requires.from.stand told) in
    let held = recovered_held c.args.group.now c.args.changes.now c.args.timestamp c.in-Ok.ready was old middle c.recover.ensures.spends.same_sizes (c.requires.from.held told) (c.requires.from.stand told)
    may (c.in_ok-recover.ensures.changed told may.seat may.may_change) in
    let can = may_write_next middle (group_recovered c.args.group.now c.in-Ok.ready.recovery) rest held (recovered_ready c.args.group.now c.args.changes.now c.args.timestamp c.in-Ok.ready was) in
    commit_leaves g.B.Bay.tells old c.args.group.now c.args.changes.now c.args.timestamp c.in-Ok.ready c.requires.from was told
    (reads_true old ((g.met.B.Bay.told c.args.bay.now).held) ((g.met.B.Bay.told c.args.bay.now).whole)) ((g.met.B.Bay.told c.args.bay.now).only_now) steps asked middle c.recover.ensures.spends.same_sizes (c.recover.ensures.any_moment told) tell
    can (reads_true middle ((g.met.B.Bay.told c.recover.new.bay).held) ((g.met.B.Bay.told c.recover.new.bay).whole)) new next tell_new

pub returns-in_err-recover-clause-calls : goal.returns-in_err-recover-clause-calls
returns-in_err-recover-clause-calls g c =
    let made = c.in-Ok.ensures in
    let was = was_readied c.args.group.now c.args.changes.now c.args.timestamp c.in-Ok.ready c.requires.from.assembled c.ranges.timestamp.fits made.readied made.recovery made.recovers made.follows in
    recovered_few g.B.Bay.tells (g.B.Bay.disks c.args.bay.now) c.args.group.now c.args.changes.now c.args.timestamp c.in-Ok.ready c.requires.from was (g.B.Bay.disks c.recover.new.bay) c.recover.ensures.spends.costs

pub returns-in_err-commit-clause-calls : goal.returns-in_err-commit-clause-calls
returns-in_err-commit-clause-calls g c =
    let made = c.in-Ok.ensures in
    let was = was_readied c.args.group.now c.args.changes.now c.args.timestamp c.in-Ok.ready c.requires.from.assembled c.ranges.timestamp.fits made.readied made.recovery made.recovers made.follows in
    committed_few g.B.Bay.tells (g.B.Bay.disks c.args.bay.now) c.args.group.now c.args.changes.now c.args.timestamp c.in-Ok.ready c.requires.from was (g.B.Bay.disks c.recover.new.bay) (g.B.Bay.disks c.commit.new.bay) c.recover.ensures.spends.costs (rw c.recover.ensures.left at c.commit.ensures.spends.costs)

pub returns-clause-calls : goal.returns-clause-calls
returns-clause-calls g c =
    let made = c.in-Ok.ensures in
    let was = was_readied c.args.group.now c.args.changes.now c.args.timestamp c.in-Ok.ready c.requires.from.assembled c.ranges.timestamp.fits made.readied made.recovery made.recovers made.follows in
    committed_few g.B.Bay.tells (g.B.Bay.disks c.args.bay.now) c.args.group.now c.args.changes.now c.args.timestamp c.in-Ok.ready c.requires.from was (g.B.Bay.disks c.recover.new.bay) (g.B.Bay.disks c.commit.new.bay) c.recover.ensures.spends.costs (rw c.recover.ensures.left at c.commit.ensures.spends.costs)

pub returns-in-Err-clause-costs : goal.returns-in-Err-clause-costs
returns-in-Err-clause-costs g c =
    let old = g.B.Bay.disks c.args.bay.now in
    none_asked_cost (work_of g.B.Bay.tells old old) (steps_or (readied c.args.group.now c.args.changes.now c.args.timestamp)) (reads_start old)

pub returns-in_err-recover-clause-costs : goal.returns-in_err-recover-clause-costs
returns-in_err-recover-clause-costs g c =
    let made = c.in-Ok.ensures in
    let was = was_readied c.args.group.now c.args.changes.now c.args.timestamp c.in-Ok.ready c.requires.from.assembled c.ranges.timestamp.fits made.readied made.recovery made.recovers made.follows in
    readied_costs c.args.group.now c.args.changes.now c.args.timestamp c.in-Ok.ready was (work_of g.B.Bay.tells (g.B.Bay.disks c.args.bay.now) (g.B.Bay.disks c.recover.new.bay))
    (recovery_costs g.B.Bay.tells c.in-Ok.ready c.recover.ensures.spends.costs)

pub returns-in_err-commit-clause-costs : goal.returns-in_err-commit-clause-costs
returns-in_err-commit-clause-costs g c =
    let made = c.in-Ok.ensures in
    let was = was_readied c.args.group.now c.args.changes.now c.args.timestamp c.in-Ok.ready c.requires.from.assembled c.ranges.timestamp.fits made.readied made.recovery made.recovers made.follows in
    readied_costs c.args.group.now c.args.changes.now c.args.timestamp c.in-Ok.ready was (work_of g.B.Bay.tells (g.B.Bay.disks c.args.bay.now) (g.B.Bay.disks c.commit.new.bay))
    (commit_costs g.B.Bay.tells c.in-Ok.ready c.recover.ensures.spends.costs (rw c.recover.ensures.left at c.commit.ensures.spends.costs))

pub returns-clause-costs : goal.returns-clause-costs
returns-clause-costs g c =
    let made = c.in-Ok.ensures in
    let was = was_readied c.args.group.now c.args.changes.now c.args.timestamp c.in-Ok.ready c.requires.from.assembled c.ranges.timestamp.fits made.readied made.recovery made.recovers made.follows in
    readied_costs c.args.group.now c.args.changes.now c.args.timestamp c.in-Ok.ready was (work_of g.B.Bay.tells (g.B.Bay.disks c.args.bay.now) (g.B.Bay.disks c.commit.new.bay))
    (commit_costs g.B.Bay.tells c.in-Ok.ready c.recover.ensures.spends.costs (rw c.recover.ensures.left at c.commit.ensures.spends.costs))
