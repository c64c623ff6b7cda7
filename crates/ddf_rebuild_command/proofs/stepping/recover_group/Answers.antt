use Rattle.std.proofs.Common.{true, false, ⊎_elim}
use Rattle.std.proofs.lemmas.Result.{err_from_is_err_and}
use Rattle.ddf_cells.specs.Touching.{GoesBetween}
use Rattle.ddf_history_steps.specs.Steps.{IsRecovery}
use Rattle.ddf_bay.specs.Told.{IsTold}
use Rattle.ddf_rebuild_command.proofs.Costs.{asks_spent}
use Rattle.ddf_rebuild_command.proofs.Recovery.{lies, on_seats, recovery_done, recovery_failed, recovery_opened, there}
use Rattle.ddf_rebuild_command.proofs.stepping.recover_group.Goals as goal

pub recover-requires-clause-slots : goal.recover-requires-clause-slots
recover-requires-clause-slots g c = there g.B.Bay.tells (g.B.Bay.disks c.args.bay.now) c.args.group.now c.args.ready.now c.requires

pub recover-requires-clause-lies : goal.recover-requires-clause-lies
recover-requires-clause-lies g c = lies g.B.Bay.tells (g.B.Bay.disks c.args.bay.now) c.args.group.now c.args.ready.now c.requires

pub returns-in_err-recover-clause-goes : goal.returns-in_err-recover-clause-goes
returns-in_err-recover-clause-goes g c =
    let old = g.B.Bay.disks c.args.bay.now in
    let new = g.B.Bay.disks c.recover.new.bay in
    let tells_old : IsTold (g.B.Bay.disks c.args.bay.now) = g.met.B.Bay.told c.args.bay.now in
    let tells_new : IsTold (g.B.Bay.disks c.recover.new.bay) = g.met.B.Bay.told c.recover.new.bay in
    let is : (told : g.B.Bay.tells) → IsRecovery old new c.args.group.now c.args.ready.now false = λ told. record {
      any_moment = c.recover.ensures.any_moment told;
      changed = λ done. absurd cc;
      settled = λ done. absurd cc;
      ends = λ done. c.in_err-recover.ensures.ends told;
      spends = c.recover.ensures.spends;
    } in
    let between : GoesBetween old new = record {
      goes_on = c.recover.ensures.spends.goes_on;
      same_sizes = c.recover.ensures.spends.same_sizes;
      reads_rise = c.recover.ensures.spends.reads_rise;
      writes_rise = c.recover.ensures.spends.writes_rise;
    } in
    recovery_failed g.B.Bay.tells old c.args.group.now c.args.ready.now c.requires tells_old new tells_new is between c.recover.ensures.spends.told c.recover.ensures.reads

pub returns-in_err-recover-clause-failed : goal.returns-in_err-recover-clause-failed
returns-in_err-recover-clause-failed g c =
    let failed = err_from_is_err_and c.from_residual.result c.from_residual.ensures.1 in
    let fault = c.in_err-recover.ensures.failed in
    rw (failed.1, failed.2) (
      ⊎_elim (λ seat. seat) (on_seats g.B.Bay.tells (g.B.Bay.disks c.args.bay.now) c.args.group.now c.args.ready.now c.requires c.in_err-recover.field-0.0.0) fault.0,
      fault.1,
    )

pub returns-clause-goes : goal.returns-clause-goes
returns-clause-goes g c =
    let old = g.B.Bay.disks c.args.bay.now in
    let new = g.B.Bay.disks c.recover.new.bay in
    let tells_old : IsTold (g.B.Bay.disks c.args.bay.now) = g.met.B.Bay.told c.args.bay.now in
    let tells_new : IsTold (g.B.Bay.disks c.recover.new.bay) = g.met.B.Bay.told c.recover.new.bay in
    let is : (told : g.B.Bay.tells) → IsRecovery old new c.args.group.now c.args.ready.now true = λ told. record {
      any_moment = c.recover.ensures.any_moment told;
      changed = λ done. c.in_ok-recover.ensures.changed told;
      settled = λ done. c.in_ok-recover.ensures.settled told;
      ends = λ done. absurd cc;
      spends = c.recover.ensures.spends;
    } in
    let between : GoesBetween old new = record {
      goes_on = c.recover.ensures.spends.goes_on;
      same_sizes = c.recover.ensures.spends.same_sizes;
      reads_rise = c.recover.ensures.spends.reads_rise;
      writes_rise = c.recover.ensures.spends.writes_rise;
    } in
    recovery_done g.B.Bay.tells old c.args.group.now c.args.ready.now c.requires tells_old new tells_new is c.recover.ensures.spends.same_sizes between c.recover.ensures.spends.told c.recover.ensures.reads

pub returns-clause-opened : goal.returns-clause-opened
returns-clause-opened g c =
    let old = g.B.Bay.disks c.args.bay.now in
    let new = g.B.Bay.disks c.recover.new.bay in
    let tells_old : IsTold (g.B.Bay.disks c.args.bay.now) = g.met.B.Bay.told c.args.bay.now in
    let tells_new : IsTold (g.B.Bay.disks c.recover.new.bay) = g.met.B.Bay.told c.recover.new.bay in
    let is : (told : g.B.Bay.tells) → IsRecovery old new c.args.group.now c.args.ready.now true = λ told. record {
      any_moment = c.recover.ensures.any_moment told;
      changed = λ done. c.in_ok-recover.ensures.changed told;
      settled = λ done. c.in_ok-recover.ensures.settled told;
      ends = λ done. absurd cc;
      spends = c.recover.ensures.spends;
    } in
    recovery_opened g.B.Bay.tells old c.args.group.now c.args.ready.now c.requires tells_old new tells_new is c.recover.ensures.spends.same_sizes _ c.recover.ensures.spends.costs c.recover.new.group c.in_ok-recover.ensures.group c.recover.new.ready
    c.recover.ensures.left

pub returns-in_err-recover-clause-asks : goal.returns-in_err-recover-clause-asks
returns-in_err-recover-clause-asks g c = asks_spent c.recover.ensures.spends

pub returns-clause-asks : goal.returns-clause-asks
returns-clause-asks g c = asks_spent c.recover.ensures.spends
