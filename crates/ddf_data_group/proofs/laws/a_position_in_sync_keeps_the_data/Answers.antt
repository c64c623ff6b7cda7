use Rattle.ddf_data_group.proofs.Synced.{finished}
use Rattle.ddf_data_group.proofs.laws.a_position_in_sync_keeps_the_data.Goals as goal

pub returns : goal.returns
returns c = finished
