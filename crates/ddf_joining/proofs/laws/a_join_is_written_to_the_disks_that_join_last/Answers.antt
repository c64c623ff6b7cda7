use Rattle.ddf_joining.proofs.BothOrder.{both_rise, join_order}
use Rattle.ddf_joining.proofs.laws.a_join_is_written_to_the_disks_that_join_last.Goals as goal

pub returns-clause-order : goal.returns-clause-order
returns-clause-order c = join_order

pub returns-clause-rises : goal.returns-clause-rises
returns-clause-rises c = both_rise
