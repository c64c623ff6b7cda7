use Rattle.ddf_data_array.proofs.FinishedRows.{kept_finished}
use Rattle.ddf_data_array.proofs.laws.a_rebuilt_position_may_be_in_sync.Goals as goal

pub returns : goal.returns
returns c = kept_finished
