use Rattle.std.proofs.Common.{true, false}
use Rattle.std.proofs.lemmas.Result.{err_from_is_err_and}
use Rattle.ddf_cells.specs.Touching.{GoesBetween}
use Rattle.ddf_history_steps.specs.Steps.{IsCommit}
use Rattle.ddf_bay.specs.Told.{IsTold}
use Rattle.ddf_rebuild_command.proofs.Costs.{asks_spent}
use Rattle.ddf_rebuild_command.proofs.NextStep.{goes_next, is_written, lies, on_seats}
use Rattle.ddf_rebuild_command.proofs.stepping.write_step.Goals as goal

pub commit-requires : goal.commit-requires
commit-requires g c = lies g.B.Bay.tells (g.B.Bay.disks c.args.bay.now) c.args.group.now c.args.ready.now c.requires

pub returns-in_err-commit-clause-goes : goal.returns-in_err-commit-clause-goes
returns-in_err-commit-clause-goes g c =
    let failed = err_from_is_err_and c.from_residual.result c.from_residual.ensures.1 in
    let old = g.B.Bay.disks c.args.bay.now in
    let new = g.B.Bay.disks c.commit.new.bay in
    let tells_old : IsTold (g.B.Bay.disks c.args.bay.now) = g.met.B.Bay.told c.args.bay.now in
    let tells_new : IsTold (g.B.Bay.disks c.commit.new.bay) = g.met.B.Bay.told c.commit.new.bay in
    let is : (told : g.B.Bay.tells) → IsCommit old new c.args.ready.now false = λ told. record {
      any_moment = c.commit.ensures.any_moment told;
      changed = λ done. absurd cc;
      spends = c.commit.ensures.spends;
    } in
    let between : GoesBetween old new = record {
      goes_on = c.commit.ensures.spends.goes_on;
      same_sizes = c.commit.ensures.spends.same_sizes;
      reads_rise = c.commit.ensures.spends.reads_rise;
      writes_rise = c.commit.ensures.spends.writes_rise;
    } in
    rw failed.1
    (goes_next g.B.Bay.tells old c.args.group.now c.args.ready.now c.requires tells_old new tells_new false is between c.commit.ensures.spends.told c.commit.ensures.reads _ c.commit.ensures.spends.costs)

pub returns-in_err-commit-clause-failed : goal.returns-in_err-commit-clause-failed
returns-in_err-commit-clause-failed g c =
    let failed = err_from_is_err_and c.from_residual.result c.from_residual.ensures.1 in
    let fault = c.in_err-commit.ensures.failed in
    rw (failed.1, failed.2) (on_seats g.B.Bay.tells (g.B.Bay.disks c.args.bay.now) c.args.group.now c.args.ready.now c.requires c.in_err-commit.field-0.0.0 fault.0, fault.1)

pub returns-clause-goes : goal.returns-clause-goes
returns-clause-goes g c =
    let old = g.B.Bay.disks c.args.bay.now in
    let new = g.B.Bay.disks c.commit.new.bay in
    let tells_old : IsTold (g.B.Bay.disks c.args.bay.now) = g.met.B.Bay.told c.args.bay.now in
    let tells_new : IsTold (g.B.Bay.disks c.commit.new.bay) = g.met.B.Bay.told c.commit.new.bay in
    let is : (told : g.B.Bay.tells) → IsCommit old new c.args.ready.now true = λ told. record {
      any_moment = c.commit.ensures.any_moment told;
      changed = λ done. c.in_ok-commit.ensures.changed told;
      spends = c.commit.ensures.spends;
    } in
    let between : GoesBetween old new = record {
      goes_on = c.commit.ensures.spends.goes_on;
      same_sizes = c.commit.ensures.spends.same_sizes;
      reads_rise = c.commit.ensures.spends.reads_rise;
      writes_rise = c.commit.ensures.spends.writes_rise;
    } in
    goes_next g.B.Bay.tells old c.args.group.now c.args.ready.now c.requires tells_old new tells_new true is between c.commit.ensures.spends.told c.commit.ensures.reads _ c.commit.ensures.spends.costs

pub returns-clause-written : goal.returns-clause-written
returns-clause-written g c =
    let old = g.B.Bay.disks c.args.bay.now in
    let new = g.B.Bay.disks c.commit.new.bay in
    let tells_new : IsTold (g.B.Bay.disks c.commit.new.bay) = g.met.B.Bay.told c.commit.new.bay in
    let is : (told : g.B.Bay.tells) → IsCommit old new c.args.ready.now true = λ told. record {
      any_moment = c.commit.ensures.any_moment told;
      changed = λ done. c.in_ok-commit.ensures.changed told;
      spends = c.commit.ensures.spends;
    } in
    is_written g.B.Bay.tells old c.args.group.now c.args.ready.now c.requires new tells_new is c.commit.ensures.spends.same_sizes c.commit.new.group c.in_ok-commit.ensures.group c.commit.new.ready
    c.commit.ensures.left

pub returns-in_err-commit-clause-asks : goal.returns-in_err-commit-clause-asks
returns-in_err-commit-clause-asks g c = asks_spent c.commit.ensures.spends

pub returns-clause-asks : goal.returns-clause-asks
returns-clause-asks g c = asks_spent c.commit.ensures.spends
