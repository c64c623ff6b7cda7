use Rattle.ddf_history_life.proofs.Lives.{outlives}
use Rattle.ddf_history_life.proofs.laws.what_was_acknowledged_outlives_stops_and_a_lost_disk.Goals as goal

pub returns : goal.returns
returns c = λ large revision stamp kept lost life. outlives large revision stamp kept lost life
