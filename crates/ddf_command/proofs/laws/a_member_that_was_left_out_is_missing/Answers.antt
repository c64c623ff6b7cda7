use Rattle.ddf_command.proofs.MembersBehind.{left_missing}
use Rattle.ddf_command.proofs.laws.a_member_that_was_left_out_is_missing.Goals as goal

pub returns : goal.returns
returns g c = λ told group old new end done slot out current number config since.
    left_missing told g.B.Bay.disks group old new end done slot out current number config since
