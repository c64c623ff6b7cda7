use Rattle.std.proofs.Common.{Option, Some, None, Err, subst}
use Rattle.ddf_array.specs.Viewing.{view_of}
use Rattle.ddf_config.specs.declared.refusal.Refusal.{Refusal}
use Rattle.ddf_config.specs.Configuration.{Configuration}
use Rattle.ddf_plan.specs.Changes.{changed_at}
use Rattle.ddf_read_commands.specs.Use.{IsViewed}
use Rattle.ddf_rebuild_command.proofs.planning.spare_view.Goals as goal

pub returns-clause-viewed : goal.returns-clause-viewed
returns-clause-viewed c =
    let config = c.args.config.now in
    subst
    (λ (bad : Option Refusal). IsViewed (elim bad [ None ↦ view_of (changed_at config c.args.change.now config.sequence) c.args.guid.now c.args.seats.now | Some refusal ↦ Err refusal ]) c.view_of.result)
    c.in_default.ensures.bad
    (subst (λ (next : Configuration). IsViewed (view_of next c.args.guid.now c.args.seats.now) c.view_of.result) c.in_ok-next.ensures c.view_of.ensures)
