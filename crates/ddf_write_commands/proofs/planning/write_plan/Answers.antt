use Rattle.std.proofs.Common.{◌∙◌, sym}
use Rattle.std.proofs.lemmas.Result.{err_from_is_err_and}
use Rattle.ddf_read_commands.specs.declared.using.Access.TheVariants.{Writes}
use Rattle.ddf_write_commands.specs.Write.{write_behind}
use Rattle.ddf_write_commands.proofs.PlanMade.{found_there, not_usable}
use Rattle.ddf_write_commands.proofs.PlanWritten.{behind_is, more_of_write, write_plan, write_refused}
use Rattle.ddf_write_commands.proofs.planning.write_plan.Goals as goal

pub returns-in_err-guid : goal.returns-in_err-guid
returns-in_err-guid c =
    let failed = err_from_is_err_and c.from_residual.result c.from_residual.ensures.1 in
    rw (failed.1, failed.2)
    (not_usable Writes c.args.start c.args.count more_of_write write_behind c.args.config.now c.args.seats.now c.args.name.now c.in_err-guid.field-0.0 c.in_err-guid.ensures.may)

pub returns-in-Some : goal.returns-in-Some
returns-in-Some c =
    write_refused c.args.start c.args.count c.args.config.now c.args.seats.now c.args.name.now (c.in_ok-guid.guid, c.in_ok-guid.view) c.in_ok-guid.ensures.may c.in-Some.refusal (sym c.in-Some.ensures)

pub returns : goal.returns
returns c =
    let may = c.in_ok-guid.ensures.may in
    let found = found_there Writes c.args.start c.args.count more_of_write write_behind c.args.config.now c.args.seats.now c.args.name.now (c.in_ok-guid.guid, c.in_ok-guid.view) may in
    write_plan c.args.start c.args.count c.args.config.now c.args.seats.now c.args.name.now (c.in_ok-guid.guid, c.in_ok-guid.view) may (sym c.in_default.ensures) c.planned.result
    (c.planned.ensures may.array write_behind found
    (behind_is c.args.start c.args.count c.args.config.now c.args.seats.now c.args.name.now (c.in_ok-guid.guid, c.in_ok-guid.view) may ∙ sym (c.cleared-behind.ensures may.array found)))
