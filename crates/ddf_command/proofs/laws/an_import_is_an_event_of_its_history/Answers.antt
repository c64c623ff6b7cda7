use Rattle.ddf_command.proofs.Happening.{join_cuts, join_ends}
use Rattle.ddf_command.proofs.laws.an_import_is_an_event_of_its_history.Goals as goal

pub returns-clause-ends : goal.returns-clause-ends
returns-clause-ends g c = λ told group old call kept tells_left. join_ends told g.B.Bay.disks group old call kept tells_left

pub returns-clause-cut : goal.returns-clause-cut
returns-clause-cut g c = λ told group old call kept cut image was_left is_left. join_cuts told g.B.Bay.disks group old call kept cut image was_left is_left
