use Rattle.ddf_array.proofs.Losses.{some_value}
use Rattle.ddf_array.proofs.laws.an_array_within_its_level_has_values.Goals as goal

pub returns : goal.returns
returns c = some_value
