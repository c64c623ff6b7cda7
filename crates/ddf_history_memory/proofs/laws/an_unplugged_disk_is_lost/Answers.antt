use Rattle.ddf_history_memory.proofs.Stops.{lost, unplugged}
use Rattle.ddf_history_memory.proofs.laws.an_unplugged_disk_is_lost.Goals as goal

pub returns-clause-lost : goal.returns-clause-lost
returns-clause-lost c = λ group past old new slot history is gone. lost group past old new slot history is gone

pub returns-clause-stays : goal.returns-clause-stays
returns-clause-stays c = λ group past old new slot history is. unplugged group past old new slot history is
