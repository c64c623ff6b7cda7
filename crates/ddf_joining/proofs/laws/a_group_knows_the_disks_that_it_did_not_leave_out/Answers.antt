use Rattle.ddf_joining.proofs.SeatClash.{knows_disks}
use Rattle.ddf_joining.proofs.laws.a_group_knows_the_disks_that_it_did_not_leave_out.Goals as goal

pub returns : goal.returns
returns g c = λ bay left also named called native other long is is_other none seen. knows_disks (g.B.Bay.disks bay) left also named called native other long is is_other none seen
