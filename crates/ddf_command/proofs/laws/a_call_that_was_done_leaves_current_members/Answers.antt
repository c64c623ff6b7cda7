use Rattle.ddf_command.proofs.MembersBehind.{seated_member, written_member}
use Rattle.ddf_command.proofs.laws.a_call_that_was_done_leaves_current_members.Goals as goal

pub returns-clause-written : goal.returns-clause-written
returns-clause-written g c = λ told group old new end done own scene leaves readable slot on last read.
    written_member told g.B.Bay.disks group old new end done own scene leaves readable slot on last read

pub returns-clause-seated : goal.returns-clause-seated
returns-clause-seated g c = λ told group old new end done own scene leaves readable place disk there none read.
    seated_member told g.B.Bay.disks group old new end done own scene leaves readable place disk there none read
