use Rattle.ddf_command.proofs.MembersBehind.{seat_current, step_current}
use Rattle.ddf_command.proofs.laws.a_calls_disks_are_current_members.Goals as goal

pub returns-clause-seats : goal.returns-clause-seats
returns-clause-seats g c = λ told group old call place disk there. seat_current told g.B.Bay.disks group old call place disk there

pub returns-clause-steps : goal.returns-clause-steps
returns-clause-steps g c = λ told group old call slot on. step_current told g.B.Bay.disks group old call slot on
