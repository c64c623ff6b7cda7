use Rattle.ddf_rewrite.proofs.Roomy.{change_can, roomy_change_can, write_can}
use Rattle.ddf_rewrite.proofs.laws.a_change_that_has_room_can_be_written.Goals as goal

pub returns-clause-written : goal.returns-clause-written
returns-clause-written c = λ old leaders config timestamp is can held time capacities none. roomy_change_can old leaders config timestamp is can held time capacities none

pub returns-clause-change : goal.returns-clause-change
returns-clause-change c = λ old leaders config timestamp is can held time capacities none. change_can old leaders config timestamp is can none

pub returns-clause-fits : goal.returns-clause-fits
returns-clause-fits c = λ old leaders config timestamp is can held time capacities none. write_can old leaders config timestamp is can held time capacities none
