use Rattle.ddf_history_steps.proofs.Told.{found_name}
use Rattle.ddf_history_steps.proofs.laws.a_named_group_is_the_one_that_is_found.Goals as goal

pub returns : goal.returns
returns c = λ newest name found is. found_name newest name found is
