use Rattle.ddf_data_array.proofs.Same.{kept_same}
use Rattle.ddf_data_array.proofs.laws.other_sectors_change_nothing.Goals as goal

pub returns : goal.returns
returns c = kept_same
