use Rattle.ddf_history_memory.proofs.Stops.{stopped_but}
use Rattle.ddf_history_memory.proofs.laws.a_stop_goes_on_in_its_history.Goals as goal

pub returns : goal.returns
returns c = λ group past old cut back history is away. stopped_but group past old history cut back is away
