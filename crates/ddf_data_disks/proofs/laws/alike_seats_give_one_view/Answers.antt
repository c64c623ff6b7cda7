use Rattle.ddf_data_disks.proofs.Alike.{view_same}
use Rattle.ddf_data_disks.proofs.laws.alike_seats_give_one_view.Goals as goal

pub returns : goal.returns
returns c = λ config guid one other alike. view_same one other alike config guid
