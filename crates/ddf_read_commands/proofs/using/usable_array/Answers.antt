use Rattle.std.proofs.Common.{◌∙◌, sym}
use Rattle.std.proofs.lemmas.Result.{err_from_is_err_and}
use Rattle.ddf_read_commands.proofs.ArrayUse.{may_not_view}
use Rattle.ddf_read_commands.proofs.using.usable_array.Goals as goal

pub returns-in_err-view : goal.returns-in_err-view
returns-in_err-view c =
    let p = err_from_is_err_and c.from_residual-in_err-view.result c.from_residual-in_err-view.ensures.1 in
    record {
      may = λ word named.
          rw (p.1, p.2)
          (may_not_view c.args.access c.args.config.now c.args.seats.now word c.args.start c.args.count (c.args.guid, c.args.array.now) named (sym c.in_ok-refusal.ensures ∙ c.in_default.is) _ c.in_err-view.ensures);
    }
