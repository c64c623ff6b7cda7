use Rattle.std.proofs.Common.{ap, inr, sym, true, false, ◌≡◌, ◌∙◌}
use Rattle.std.proofs.lemmas.Bool.{false≢true}
use Rattle.std.proofs.lemmas.Result.{err_from_is_err_and}
use Rattle.ddf_bay.proofs.Looks.{reads_start}
use Rattle.ddf_config.specs.Configuration.{Configuration}
use Rattle.ddf_seats.specs.Group.{GroupValue}
use Rattle.ddf_history_joins.specs.Joins.{IsImport}
use Rattle.ddf_history_steps.specs.Steps.{IsRecovery}
use Rattle.ddf_answer.specs.Call.{work_of}
use Rattle.ddf_group_commands.proofs.Keeping.{Tells, reads_true}
use Rattle.ddf_group_commands.proofs.LeftWriting.{reads_leave}
use Rattle.ddf_import_command.specs.Import.{import_steps}
use Rattle.ddf_import_command.proofs.Leaving.{import_leaves, recover_leaves}
use Rattle.ddf_import_command.proofs.Asked.{not_readied}
use Rattle.ddf_import_command.proofs.FewCalls.{import_calls, recover_calls}
use Rattle.ddf_import_command.proofs.Placed.{first_lies, join_failed, join_lies, join_there, recover_failed, slots_there}
use Rattle.ddf_import_command.proofs.Written.{all_written, joined_to, joins_settled, native_settled}
use Rattle.ddf_import_command.proofs.Keeping.{import_keeps, reads_join, recovery_keeps}
use Rattle.ddf_import_command.proofs.importing.write_import.Goals as goal

pub returns-in_err-ready-clause-imported : goal.returns-in_err-ready-clause-imported
returns-in_err-ready-clause-imported g c =
    let failed = err_from_is_err_and c.from_residual.result c.from_residual.ensures.1 in
    let old = g.B.Bay.disks c.args.bay.now in
    rw (failed.1, failed.2)
    (not_readied (work_of g.B.Bay.tells old old) c.args.timestamp c.args.left_out.now c.args.joining.now.left_out c.args.group.now c.args.joining.now.group c.in_err-ready.field-0.0
    c.requires.also.assembled c.requires.none c.in_err-ready.ensures.readied (reads_start old))

pub returns-in_err-ready-clause-keeps : goal.returns-in_err-ready-clause-keeps
returns-in_err-ready-clause-keeps g c = λ told left also_left named also_named found found_too made asked.
    let failed = err_from_is_err_and c.from_residual.result c.from_residual.ensures.1 in
    let old = g.B.Bay.disks c.args.bay.now in
    rw failed.1 (reads_join old old left c.args.group.now c.args.joining.now.group c.args.timestamp made (reads_start old))

pub recover-requires-clause-slots : goal.recover-requires-clause-slots
recover-requires-clause-slots g c =
    let ready = c.in_ok-ready.ready in
    let made = c.in_ok-ready.ensures.readied in
    slots_there g.B.Bay.tells (g.B.Bay.disks c.args.bay.now) c.args.group.now c.args.joining.now.group c.args.timestamp c.args.left_out.now ready.recovery ready.join
    c.requires.from c.requires.also c.ranges.timestamp.fits made

pub recover-requires-clause-lies : goal.recover-requires-clause-lies
recover-requires-clause-lies g c =
    let ready = c.in_ok-ready.ready in
    let made = c.in_ok-ready.ensures.readied in
    first_lies g.B.Bay.tells (g.B.Bay.disks c.args.bay.now) c.args.group.now c.args.joining.now.group c.args.timestamp c.args.left_out.now ready.recovery ready.join
    c.requires.from c.requires.also c.ranges.timestamp.fits made

pub returns-in_err-recover-clause-imported : goal.returns-in_err-recover-clause-imported
returns-in_err-recover-clause-imported g c =
    let failed = err_from_is_err_and c.from_residual-in_err-recover.result c.from_residual-in_err-recover.ensures.1 in
    let ready = c.in_ok-ready.ready in
    let made = c.in_ok-ready.ensures.readied in
    let fault = c.in_err-recover.ensures.failed in
    rw (failed.1, failed.2)
    (inr (recover_failed g.B.Bay.tells (g.B.Bay.disks c.args.bay.now) c.args.group.now c.args.joining.now.group c.args.timestamp c.args.left_out.now ready.recovery ready.join
    c.requires.from c.requires.also c.ranges.timestamp.fits made (g.B.Bay.disks c.recover.new.bay) c.in_err-recover.field-0.0.0 fault.0 fault.1))

pub returns-in_err-recover-clause-keeps : goal.returns-in_err-recover-clause-keeps
returns-in_err-recover-clause-keeps g c = λ told left also_left named also_named found found_too joined asked.
    let failed = err_from_is_err_and c.from_residual-in_err-recover.result c.from_residual-in_err-recover.ensures.1 in
    let old = g.B.Bay.disks c.args.bay.now in
    let new = g.B.Bay.disks c.recover.new.bay in
    let ready = c.in_ok-ready.ready in
    let made = c.in_ok-ready.ensures.readied in
    let recovery : IsRecovery old new c.args.group.now ready.recovery false = record {
      any_moment = c.recover.ensures.any_moment told;
      changed = λ done. absurd (false≢true done);
      settled = λ done. absurd (false≢true done);
      ends = λ done. c.in_err-recover.ensures.ends told;
      spends = c.recover.ensures.spends;
    } in
    rw failed.1
    (recovery_keeps g.B.Bay.tells old c.args.group.now c.args.joining.now.group c.args.timestamp c.args.left_out.now ready.recovery ready.join
    c.requires.from c.requires.also c.ranges.timestamp.fits made told (reads_true old ((g.met.B.Bay.told c.args.bay.now).held) ((g.met.B.Bay.told c.args.bay.now).whole))
    left also_left named also_named found found_too joined asked new recovery ((g.met.B.Bay.told c.recover.new.bay).since) ((g.met.B.Bay.told c.recover.new.bay).held))

pub write_join-requires-clause-slots : goal.write_join-requires-clause-slots
write_join-requires-clause-slots g c =
    let ready = c.in_ok-ready.ready in
    let made = c.in_ok-ready.ensures.readied in
    rw c.recover.ensures.spends.same_sizes
    (join_there g.B.Bay.tells (g.B.Bay.disks c.args.bay.now) c.args.group.now c.args.joining.now.group c.args.timestamp c.args.left_out.now ready.recovery ready.join
    c.requires.from c.requires.also c.ranges.timestamp.fits made)

pub write_join-requires-clause-lies : goal.write_join-requires-clause-lies
write_join-requires-clause-lies g c =
    let ready = c.in_ok-ready.ready in
    let made = c.in_ok-ready.ensures.readied in
    rw c.recover.ensures.spends.same_sizes
    (join_lies g.B.Bay.tells (g.B.Bay.disks c.args.bay.now) c.args.group.now c.args.joining.now.group c.args.timestamp c.args.left_out.now ready.recovery ready.join
    c.requires.from c.requires.also c.ranges.timestamp.fits made)

pub returns-in_err-write_join-clause-imported : goal.returns-in_err-write_join-clause-imported
returns-in_err-write_join-clause-imported g c =
    let failed = err_from_is_err_and c.from_residual-in_err-write_join.result c.from_residual-in_err-write_join.ensures.1 in
    let ready = c.in_ok-ready.ready in
    let made = c.in_ok-ready.ensures.readied in
    let fault = c.in_err-write_join.ensures.failed in
    rw (failed.1, failed.2)
    (inr (join_failed g.B.Bay.tells (g.B.Bay.disks c.args.bay.now) c.args.group.now c.args.joining.now.group c.args.timestamp c.args.left_out.now ready.recovery ready.join
    c.requires.from c.requires.also c.ranges.timestamp.fits made (g.B.Bay.disks c.recover.new.bay) (g.B.Bay.disks c.write_join.new.bay) c.in_err-write_join.field-0.0.0
    fault.0 c.in_ok-recover.ensures.ok fault.1))

pub returns-in_err-write_join-clause-keeps : goal.returns-in_err-write_join-clause-keeps
returns-in_err-write_join-clause-keeps g c = λ told left also_left named also_named found found_too joined asked.
    let failed = err_from_is_err_and c.from_residual-in_err-write_join.result c.from_residual-in_err-write_join.ensures.1 in
    let old = g.B.Bay.disks c.args.bay.now in
    let middle = g.B.Bay.disks c.recover.new.bay in
    let new = g.B.Bay.disks c.write_join.new.bay in
    let ready = c.in_ok-ready.ready in
    let made = c.in_ok-ready.ensures.readied in
    let recovery : IsRecovery old middle c.args.group.now ready.recovery true = record {
      any_moment = c.recover.ensures.any_moment told;
      changed = λ done. c.in_ok-recover.ensures.changed told;
      settled = λ done. c.in_ok-recover.ensures.settled told;
      ends = λ done. absurd (false≢true (sym done));
      spends = c.recover.ensures.spends;
    } in
    let written : IsImport middle new ready.join false = record {
      any_moment = c.write_join.ensures.any_moment told;
      changed = λ done. absurd (false≢true done);
      settled = λ done. absurd (false≢true done);
      ends = λ done. c.in_err-write_join.ensures.ends told;
      spends = c.write_join.ensures.spends;
    } in
    rw failed.1
    (import_keeps g.B.Bay.tells old c.args.group.now c.args.joining.now.group c.args.timestamp c.args.left_out.now ready.recovery ready.join
    c.requires.from c.requires.also c.ranges.timestamp.fits made told (reads_true old ((g.met.B.Bay.told c.args.bay.now).held) ((g.met.B.Bay.told c.args.bay.now).whole))
    left also_left named also_named found found_too joined asked middle new false recovery written ((g.met.B.Bay.told c.write_join.new.bay).since) ((g.met.B.Bay.told c.write_join.new.bay).held)
    ((g.met.B.Bay.told c.recover.new.bay).held))

pub returns-clause-imported : goal.returns-clause-imported
returns-clause-imported g c =
    let old = g.B.Bay.disks c.args.bay.now in
    let middle = g.B.Bay.disks c.recover.new.bay in
    let new = g.B.Bay.disks c.write_join.new.bay in
    let ready = c.in_ok-ready.ready in
    let made = c.in_ok-ready.ensures.readied in
    let last : c.behind-group.inside.sequence ≡ ready.join.one.step.config.sequence =
    ap (λ (config : Configuration). config.sequence) (c.behind-group.view_is ∙ c.config.ensures)
    ∙ ap (λ (one : GroupValue). one.config.sequence) c.in_ok-write_join.ensures.group in
    joined_to g.B.Bay.tells old c.args.group.now c.args.joining.now.group c.args.timestamp c.args.left_out.now ready.recovery ready.join
    c.requires.from c.requires.also c.ranges.timestamp.fits made new c.behind-group.inside.sequence last
    (λ told.
    all_written g.B.Bay.tells old c.args.group.now c.args.joining.now.group c.args.timestamp c.args.left_out.now ready.recovery ready.join
    c.requires.from c.requires.also c.ranges.timestamp.fits made told middle c.recover.ensures.spends.same_sizes
    (c.in_ok-recover.ensures.changed told) new (c.in_ok-write_join.ensures.changed told))
    (λ told.
    native_settled g.B.Bay.tells old c.args.group.now c.args.joining.now.group c.args.timestamp c.args.left_out.now ready.recovery ready.join
    c.requires.from c.requires.also c.ranges.timestamp.fits made told middle c.recover.ensures.spends.same_sizes
    (c.in_ok-recover.ensures.changed told) new (c.in_ok-write_join.ensures.changed told)
    (c.in_ok-recover.ensures.settled told))
    (λ told.
    joins_settled g.B.Bay.tells old c.args.group.now c.args.joining.now.group c.args.timestamp c.args.left_out.now ready.recovery ready.join
    c.requires.from c.requires.also c.ranges.timestamp.fits made told middle c.recover.ensures.spends.same_sizes
    (c.in_ok-recover.ensures.changed told) new (c.in_ok-write_join.ensures.changed told)
    (c.in_ok-write_join.ensures.settled told))

pub returns-clause-keeps : goal.returns-clause-keeps
returns-clause-keeps g c = λ told left also_left named also_named found found_too joined asked.
    let old = g.B.Bay.disks c.args.bay.now in
    let middle = g.B.Bay.disks c.recover.new.bay in
    let new = g.B.Bay.disks c.write_join.new.bay in
    let ready = c.in_ok-ready.ready in
    let made = c.in_ok-ready.ensures.readied in
    let recovery : IsRecovery old middle c.args.group.now ready.recovery true = record {
      any_moment = c.recover.ensures.any_moment told;
      changed = λ done. c.in_ok-recover.ensures.changed told;
      settled = λ done. c.in_ok-recover.ensures.settled told;
      ends = λ done. absurd (false≢true (sym done));
      spends = c.recover.ensures.spends;
    } in
    let written : IsImport middle new ready.join true = record {
      any_moment = c.write_join.ensures.any_moment told;
      changed = λ done. c.in_ok-write_join.ensures.changed told;
      settled = λ done. c.in_ok-write_join.ensures.settled told;
      ends = λ done. absurd (false≢true (sym done));
      spends = c.write_join.ensures.spends;
    } in
    import_keeps g.B.Bay.tells old c.args.group.now c.args.joining.now.group c.args.timestamp c.args.left_out.now ready.recovery ready.join
    c.requires.from c.requires.also c.ranges.timestamp.fits made told (reads_true old ((g.met.B.Bay.told c.args.bay.now).held) ((g.met.B.Bay.told c.args.bay.now).whole))
    left also_left named also_named found found_too joined asked middle new true recovery written ((g.met.B.Bay.told c.write_join.new.bay).since) ((g.met.B.Bay.told c.write_join.new.bay).held)
    ((g.met.B.Bay.told c.recover.new.bay).held)

pub returns-in_err-ready-clause-leaves : goal.returns-in_err-ready-clause-leaves
returns-in_err-ready-clause-leaves g c = λ told joined asked.
    let old = g.B.Bay.disks c.args.bay.now in
    reads_leave old old (import_steps joined) (reads_start old)

pub returns-in_err-recover-clause-leaves : goal.returns-in_err-recover-clause-leaves
returns-in_err-recover-clause-leaves g c = λ told joined asked.
    let old = g.B.Bay.disks c.args.bay.now in
    let middle = g.B.Bay.disks c.recover.new.bay in
    let ready = c.in_ok-ready.ready in
    let made = c.in_ok-ready.ensures.readied in
    let tell : Tells old middle = record {
      told = (g.met.B.Bay.told c.recover.new.bay).since;
      counts = (g.met.B.Bay.told c.recover.new.bay).counts;
      back = c.recover.ensures.spends.told;
      held = (g.met.B.Bay.told c.recover.new.bay).held;
    } in
    recover_leaves g.B.Bay.tells old c.args.group.now c.args.joining.now.group c.args.timestamp c.args.left_out.now ready.recovery ready.join
    c.requires.from c.requires.also c.ranges.timestamp.fits made told (reads_true old ((g.met.B.Bay.told c.args.bay.now).held) ((g.met.B.Bay.told c.args.bay.now).whole))
    ((g.met.B.Bay.told c.args.bay.now).only_now) joined asked middle c.recover.ensures.spends.same_sizes (c.recover.ensures.any_moment told) tell

pub returns-in_err-write_join-clause-leaves : goal.returns-in_err-write_join-clause-leaves
returns-in_err-write_join-clause-leaves g c = λ told joined asked.
    let old = g.B.Bay.disks c.args.bay.now in
    let middle = g.B.Bay.disks c.recover.new.bay in
    let new = g.B.Bay.disks c.write_join.new.bay in
    let ready = c.in_ok-ready.ready in
    let made = c.in_ok-ready.ensures.readied in
    let tell : Tells old middle = record {
      told = (g.met.B.Bay.told c.recover.new.bay).since;
      counts = (g.met.B.Bay.told c.recover.new.bay).counts;
      back = c.recover.ensures.spends.told;
      held = (g.met.B.Bay.told c.recover.new.bay).held;
    } in
    let tell_new : Tells middle new = record {
      told = (g.met.B.Bay.told c.write_join.new.bay).since;
      counts = (g.met.B.Bay.told c.write_join.new.bay).counts;
      back = c.write_join.ensures.spends.told;
      held = (g.met.B.Bay.told c.write_join.new.bay).held;
    } in
    import_leaves g.B.Bay.tells old c.args.group.now c.args.joining.now.group c.args.timestamp c.args.left_out.now ready.recovery ready.join
    c.requires.from c.requires.also c.ranges.timestamp.fits made told (reads_true old ((g.met.B.Bay.told c.args.bay.now).held) ((g.met.B.Bay.told c.args.bay.now).whole))
    ((g.met.B.Bay.told c.args.bay.now).only_now) joined asked middle c.recover.ensures.spends.same_sizes (c.recover.ensures.any_moment told) tell
    (c.in_ok-recover.ensures.changed told) (reads_true middle ((g.met.B.Bay.told c.recover.new.bay).held) ((g.met.B.Bay.told c.recover.new.bay).whole)) new (c.write_join.ensures.any_moment told) tell_new

pub returns-clause-leaves : goal.returns-clause-leaves
returns-clause-leaves g c = λ told joined asked.
    let old = g.B.Bay.disks c.args.bay.now in
    let middle = g.B.Bay.disks c.recover.new.bay in
    let new = g.B.Bay.disks c.write_join.new.bay in
    let ready = c.in_ok-ready.ready in
    let made = c.in_ok-ready.ensures.readied in
    let tell : Tells old middle = record {
      told = (g.met.B.Bay.told c.recover.new.bay).since;
      counts = (g.met.B.Bay.told c.recover.new.bay).counts;
      back = c.recover.ensures.spends.told;
      held = (g.met.B.Bay.told c.recover.new.bay).held;
    } in
    let tell_new : Tells middle new = record {
      told = (g.met.B.Bay.told c.write_join.new.bay).since;
      counts = (g.met.B.Bay.told c.write_join.new.bay).counts;
      back = c.write_join.ensures.spends.told;
      held = (g.met.B.Bay.told c.write_join.new.bay).held;
    } in
    import_leaves g.B.Bay.tells old c.args.group.now c.args.joining.now.group c.args.timestamp c.args.left_out.now ready.recovery ready.join
    c.requires.from c.requires.also c.ranges.timestamp.fits made told (reads_true old ((g.met.B.Bay.told c.args.bay.now).held) ((g.met.B.Bay.told c.args.bay.now).whole))
    ((g.met.B.Bay.told c.args.bay.now).only_now) joined asked middle c.recover.ensures.spends.same_sizes (c.recover.ensures.any_moment told) tell
    (c.in_ok-recover.ensures.changed told) (reads_true middle ((g.met.B.Bay.told c.recover.new.bay).held) ((g.met.B.Bay.told c.recover.new.bay).whole)) new (c.write_join.ensures.any_moment told) tell_new

pub returns-in_err-recover-clause-calls : goal.returns-in_err-recover-clause-calls
returns-in_err-recover-clause-calls g c =
    let ready = c.in_ok-ready.ready in
    let made = c.in_ok-ready.ensures.readied in
    recover_calls g.B.Bay.tells (g.B.Bay.disks c.args.bay.now) c.args.group.now c.args.joining.now.group c.args.timestamp c.args.left_out.now ready.recovery ready.join
    c.requires.from c.requires.also c.ranges.timestamp.fits made (g.B.Bay.disks c.recover.new.bay) c.recover.ensures.spends.costs

pub returns-in_err-write_join-clause-calls : goal.returns-in_err-write_join-clause-calls
returns-in_err-write_join-clause-calls g c =
    let ready = c.in_ok-ready.ready in
    let made = c.in_ok-ready.ensures.readied in
    import_calls g.B.Bay.tells (g.B.Bay.disks c.args.bay.now) c.args.group.now c.args.joining.now.group c.args.timestamp c.args.left_out.now ready.recovery ready.join
    c.requires.from c.requires.also c.ranges.timestamp.fits made (g.B.Bay.disks c.recover.new.bay) c.recover.ensures.spends.costs
    (g.B.Bay.disks c.write_join.new.bay) c.write_join.ensures.spends.costs

pub returns-clause-calls : goal.returns-clause-calls
returns-clause-calls g c =
    let ready = c.in_ok-ready.ready in
    let made = c.in_ok-ready.ensures.readied in
    import_calls g.B.Bay.tells (g.B.Bay.disks c.args.bay.now) c.args.group.now c.args.joining.now.group c.args.timestamp c.args.left_out.now ready.recovery ready.join
    c.requires.from c.requires.also c.ranges.timestamp.fits made (g.B.Bay.disks c.recover.new.bay) c.recover.ensures.spends.costs
    (g.B.Bay.disks c.write_join.new.bay) c.write_join.ensures.spends.costs
