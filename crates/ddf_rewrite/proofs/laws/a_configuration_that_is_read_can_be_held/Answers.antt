use Rattle.ddf_rewrite.proofs.Whole.{read_is_holdable}
use Rattle.ddf_rewrite.proofs.laws.a_configuration_that_is_read_can_be_held.Goals as goal

pub returns : goal.returns
returns c = λ geometry copy copies sound all. read_is_holdable geometry copy copies sound all
