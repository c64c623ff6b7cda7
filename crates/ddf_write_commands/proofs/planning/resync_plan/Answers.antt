use Rattle.std.proofs.Common.{Err, refl, subst, sym}
use Rattle.std.proofs.lemmas.Result.{err_from_is_err_and}
use Rattle.ddf_answer.specs.declared.failure.Failure.{Failure}
use Rattle.ddf_read_commands.specs.declared.using.Access.TheVariants.{Reads}
use Rattle.ddf_write_commands.specs.Plans.{MayPlan}
use Rattle.ddf_write_commands.specs.Resync.{resync_behind, resync_refusals}
use Rattle.ddf_write_commands.proofs.PlanMade.{found_there, more_of_resync, not_usable, resync_plan, resync_refused}
use Rattle.ddf_write_commands.proofs.planning.resync_plan.Goals as goal

pub returns-in_err-guid : goal.returns-in_err-guid
returns-in_err-guid c =
    let failed = err_from_is_err_and c.from_residual.result c.from_residual.ensures.1 in
    rw (failed.1, failed.2) (not_usable Reads 0 0 more_of_resync resync_behind c.args.config.now c.args.seats.now c.args.name.now c.in_err-guid.field-0.0 c.in_err-guid.ensures.may)

pub returns-in-Some : goal.returns-in-Some
returns-in-Some c =
    subst (λ (failure : Failure). MayPlan resync_refusals resync_behind c.args.config.now c.args.seats.now c.args.name.now (Err failure)) (sym c.failure_of.ensures)
    (resync_refused c.args.config.now c.args.seats.now c.args.name.now (c.in_ok-guid.guid, c.in_ok-guid.view) c.in_ok-guid.ensures.may c.in-Some.fault (sym c.in-Some.ensures.value))

pub returns : goal.returns
returns c =
    let may = c.in_ok-guid.ensures.may in
    resync_plan c.args.config.now c.args.seats.now c.args.name.now (c.in_ok-guid.guid, c.in_ok-guid.view) may (sym c.in_default.ensures.value) c.planned.result
    (c.planned.ensures may.array resync_behind
    (found_there Reads 0 0 more_of_resync resync_behind c.args.config.now c.args.seats.now c.args.name.now (c.in_ok-guid.guid, c.in_ok-guid.view) may) refl)
