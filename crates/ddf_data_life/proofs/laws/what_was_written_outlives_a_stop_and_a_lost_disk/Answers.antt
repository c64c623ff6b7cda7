use Rattle.ddf_data_life.proofs.Lives.{outlives}
use Rattle.ddf_data_life.proofs.laws.what_was_written_outlives_a_stop_and_a_lost_disk.Goals as goal

pub returns : goal.returns
returns c = λ large revision stamp guid kept lost life. outlives life
