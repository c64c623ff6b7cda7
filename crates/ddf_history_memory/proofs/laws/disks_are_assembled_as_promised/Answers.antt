use Rattle.ddf_history_memory.proofs.Stops.{answered}
use Rattle.ddf_history_memory.proofs.laws.disks_are_assembled_as_promised.Goals as goal

pub returns : goal.returns
returns c = λ group past bay left history member told long out read. answered group past bay left history member told long out read
