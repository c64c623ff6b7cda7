use Rattle.std.proofs.Common.{◌≡◌, ◌∙◌, Ok, Err, ap, subst, sym}
use Rattle.std.proofs.lemmas.Result.{err_from_is_err_and}
use Rattle.ddf_config.specs.Configuration.{Configuration}
use Rattle.ddf_plan.specs.Same.{same_tables}
use Rattle.ddf_array.specs.Viewing.{view_of}
use Rattle.ddf_read_commands.specs.Use.{IsViewed}
use Rattle.ddf_write_commands.proofs.PlanMade.{a_step, no_view, not_step}
use Rattle.ddf_write_commands.proofs.planning.marked.Goals as goal

pub returns-then-same_tables : goal.returns-then-same_tables
unfolding same_tables
returns-then-same_tables c =
    not_step c.args.config.now c.args.seats.now c.args.guid.now c.args.view c.requires
    (ap (same_tables c.args.config.now) (sym c.in_ok-next.ensures) ∙ sym c.same_tables.ensures ∙ c.if-same_tables.true)

pub returns-in_err-marked_view : goal.returns-in_err-marked_view
returns-in_err-marked_view c =
    let failed = err_from_is_err_and c.from_residual-in_err-marked_view.result c.from_residual-in_err-marked_view.ensures.1 in
    rw (failed.1, failed.2)
    (no_view c.args.config.now c.args.seats.now c.args.guid.now c.args.view c.requires c.in_err-marked_view.field-0.0
    (subst (λ (config : Configuration). IsViewed (view_of config c.args.guid.now c.args.seats.now) (Err c.in_err-marked_view.field-0.0)) c.in_ok-next.ensures c.in_err-marked_view.ensures))

pub returns : goal.returns
unfolding same_tables
returns c =
    a_step c.args.config.now c.args.seats.now c.args.guid.now c.args.view c.requires
    (ap (same_tables c.args.config.now) (sym c.in_ok-next.ensures) ∙ sym c.same_tables.ensures ∙ c.if-same_tables.false) c.in_ok-marked_view.marked_view
    (subst (λ (config : Configuration). view_of config c.args.guid.now c.args.seats.now ≡ Ok c.in_ok-marked_view.marked_view) c.in_ok-next.ensures c.in_ok-marked_view.ensures)
