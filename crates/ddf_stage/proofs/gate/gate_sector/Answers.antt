use Rattle.std.proofs.Common.{◌∙◌, ap}
use Rattle.ddf_stage.specs.Gate.{blank, gate_bytes, opened}
use Rattle.ddf_stage.proofs.Gates.{opened_as}
use Rattle.ddf_stage.proofs.gate.gate_sector.Goals as goal

exact : goal.returns-clause-exact
unfolding gate_bytes blank
exact c = c.write.ensures.exact

pub returns-clause-exact : goal.returns-clause-exact
returns-clause-exact c = exact c

pub returns-clause-again : goal.returns-clause-again
returns-clause-again c = λ is. ap opened (exact c) ∙ opened_as c.args.is_open c.args.gate.now is
