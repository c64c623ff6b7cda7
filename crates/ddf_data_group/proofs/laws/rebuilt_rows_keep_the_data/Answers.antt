use Rattle.ddf_data_group.proofs.Synced.{noted_rows}
use Rattle.ddf_data_group.proofs.laws.rebuilt_rows_keep_the_data.Goals as goal

pub returns : goal.returns
returns c = noted_rows
