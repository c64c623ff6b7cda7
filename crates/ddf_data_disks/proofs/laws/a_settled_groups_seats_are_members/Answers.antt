use Rattle.ddf_data_disks.proofs.Ended.{seats_are}
use Rattle.ddf_data_disks.proofs.laws.a_settled_groups_seats_are_members.Goals as goal

pub returns : goal.returns
returns g c = λ group past found end. seats_are group past (g.B.Bay.disks c.args.bay.now) found end
