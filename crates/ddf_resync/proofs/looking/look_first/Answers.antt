use Rattle.std.proofs.Common.{◌≡◌, ◌∙◌, true, sym, arith, rules}
use Rattle.std.proofs.lemmas.Grind.{common_steps}
use Rattle.std.proofs.lemmas.Result.{err_from_is_err_and}
use Rattle.ddf_resync.specs.Several.{has_other}
use Rattle.ddf_resync.proofs.CopyStep.{block_left}
use Rattle.ddf_resync.proofs.looking.look_first.Goals as goal

pub returns-in_err-read_run-clause-left : goal.returns-in_err-read_run-clause-left
returns-in_err-read_run-clause-left g c =
    let v = c.args.view.now in
    let p = err_from_is_err_and c.from_residual.result c.from_residual.ensures.1 in
    let several : has_other v c.args.block ≡ true = sym c.has_other.ensures ∙ c.if-not-has_other.false in
    let along = c.blocks_along-count.ensures in
    rw (p.1, p.2)
    (block_left _ v c.args.block c.blocks_along-count.result _ _ along.along several along.inside (first_of (grind (arith, common_steps), search rules)) c.in_err-read_run.ensures.left)
