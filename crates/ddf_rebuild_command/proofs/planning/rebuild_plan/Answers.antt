use Rattle.std.proofs.Common.{ℕ, List, sym, subst}
use Rattle.std.proofs.lemmas.Result.{err_from_is_err_and}
use Rattle.ddf_rebuild_command.specs.Plans.{MayPlanFor}
use Rattle.ddf_rebuild_command.proofs.PlanMade.{found_there, is_unmarked, not_usable, plan_of, refused_more}
use Rattle.ddf_rebuild_command.proofs.planning.rebuild_plan.Goals as goal

pub returns-in_err-guid : goal.returns-in_err-guid
returns-in_err-guid c =
    let failed = err_from_is_err_and c.from_residual.result c.from_residual.ensures.1 in
    rw (failed.1, failed.2) (not_usable c.args.config.now c.args.seats.now c.args.linux.now c.args.name.now c.in_err-guid.field-0.0 c.in_err-guid.ensures.may)

pub returns-in-Some : goal.returns-in-Some
returns-in-Some c =
    refused_more c.args.config.now c.args.seats.now c.args.linux.now c.args.name.now (c.in_ok-guid.guid, c.in_ok-guid.view) c.in_ok-guid.ensures.may c.in-Some.refusal (sym c.in-Some.ensures)

pub planned-requires-clause-viewed : goal.planned-requires-clause-viewed
planned-requires-clause-viewed c = c.in_ok-guid.ensures.may.is_view

pub planned-requires-clause-unmarked : goal.planned-requires-clause-unmarked
planned-requires-clause-unmarked c =
    is_unmarked c.args.config.now c.args.seats.now c.args.linux.now c.args.name.now (c.in_ok-guid.guid, c.in_ok-guid.view) c.in_ok-guid.ensures.may (sym c.in_default.ensures)

pub returns : goal.returns
returns c =
    let may = c.in_ok-guid.ensures.may in
    let there = found_there c.args.config.now c.args.seats.now c.args.linux.now c.args.name.now (c.in_ok-guid.guid, c.in_ok-guid.view) may in
    plan_of c.args.config.now c.args.seats.now c.args.linux.now c.args.name.now (c.in_ok-guid.guid, c.in_ok-guid.view) may (sym c.in_default.ensures) c.planned.result
    (subst (λ (aside : List ℕ). MayPlanFor c.args.config.now c.args.seats.now aside (c.in_ok-guid.guid, may.array) c.planned.result) (c.passed_over-aside.ensures may.array there) (c.planned.ensures may.array there))
