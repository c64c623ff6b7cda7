use Rattle.ddf_history_steps.proofs.Floored.{group_floored, next_floored, recovered_floored, seats_have_floors}
use Rattle.ddf_history_steps.proofs.blocks.floors_lie_before_records.Goals as goal

pub returns-clause-found : goal.returns-clause-found
returns-clause-found g c = group_floored

pub returns-clause-recovered : goal.returns-clause-recovered
returns-clause-recovered g c = recovered_floored

pub returns-clause-next : goal.returns-clause-next
returns-clause-next g c = next_floored

pub returns-clause-floors : goal.returns-clause-floors
returns-clause-floors g c = λ group past bay found end are. seats_have_floors group past (g.B.Bay.disks bay) found end are
