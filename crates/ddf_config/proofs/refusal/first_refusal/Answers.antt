use Rattle.std.proofs.Common.{◌∙◌, sym}
use Rattle.ddf_config.proofs.Firsts.{check_refuses, check_passes}
use Rattle.ddf_config.proofs.refusal.first_refusal.Goals as goal

pub returns-in-Some : goal.returns-in-Some
returns-in-Some c =
    sym (check_refuses c.args.checks.now c.loop-check.check-index c.check-item.result c.loop-check-test.true c.loop-check.invariant c.in-Some.refusal
    (sym c.check-item.is ∙ c.in-Some.is))

pub loop-check-preserved : goal.loop-check-preserved
loop-check-preserved c =
    check_passes c.args.checks.now c.loop-check.check-index c.check-item.result c.loop-check-test.true c.loop-check.invariant
    (sym c.check-item.is ∙ c.in_default.is)
