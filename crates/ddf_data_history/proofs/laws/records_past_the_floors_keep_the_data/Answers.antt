use Rattle.ddf_data_history.proofs.Steps.{below_floors}
use Rattle.ddf_data_history.proofs.laws.records_past_the_floors_keep_the_data.Goals as goal

pub returns : goal.returns
returns c = λ group floor small past before image promises kept are same. below_floors group floor small past before promises kept image are same
