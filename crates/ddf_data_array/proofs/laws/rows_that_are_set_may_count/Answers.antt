use Rattle.ddf_data_array.proofs.Noted.{kept_noted}
use Rattle.ddf_data_array.proofs.laws.rows_that_are_set_may_count.Goals as goal

pub returns : goal.returns
returns c = kept_noted
