use Rattle.std.proofs.Common.{[]}
use Rattle.ddf_uncut_group.proofs.StepsSplit.{one_first, one_same, readied_refused}
use Rattle.ddf_uncut_group.proofs.laws.a_change_is_readied_as_its_step.Goals as goal

pub returns-clause-refused : goal.returns-clause-refused
returns-clause-refused c = λ group change timestamp refusal settled refused. readied_refused timestamp group settled change [] refusal refused

pub returns-clause-nothing : goal.returns-clause-nothing
returns-clause-nothing c = λ group change timestamp settled free same. one_same timestamp group settled change free same

pub returns-clause-step : goal.returns-clause-step
returns-clause-step c = λ group change timestamp settled free alters kept. one_first timestamp group settled change free alters kept
