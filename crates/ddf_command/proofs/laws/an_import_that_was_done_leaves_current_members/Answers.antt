use Rattle.ddf_command.proofs.JoinedMembers.{joined_member}
use Rattle.ddf_command.proofs.laws.an_import_that_was_done_leaves_current_members.Goals as goal

pub returns : goal.returns
returns g c = λ told group old new end done own scene leaves readable slot is_slot current read.
    joined_member told g.B.Bay.disks group old new end done own scene leaves readable slot is_slot current read
