use Rattle.ddf_history_memory.proofs.Stops.{come_back}
use Rattle.ddf_history_memory.proofs.laws.a_disk_that_comes_back_goes_on_in_its_history.Goals as goal

pub returns : goal.returns
returns c = λ group past old cut slot history missing is. come_back group past old history cut slot missing is
