use Rattle.ddf_data_disks.proofs.Ended.{seats_alike}
use Rattle.ddf_data_disks.proofs.laws.the_seats_of_a_settled_group_are_those_of_its_history.Goals as goal

pub returns : goal.returns
returns g c = λ group past floor found end on. seats_alike group past (g.B.Bay.disks c.args.bay.now) found end floor on
