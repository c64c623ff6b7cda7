use Rattle.ddf_history_memory.proofs.Found.{begins_found}
use Rattle.ddf_history_memory.proofs.laws.a_group_that_was_found_whole_begins_a_history.Goals as goal

pub returns : goal.returns
returns g c = λ group bay left found whole. begins_found group (g.B.Bay.disks bay) left found whole
