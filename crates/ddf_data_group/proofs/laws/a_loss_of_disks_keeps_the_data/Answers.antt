use Rattle.ddf_data_group.proofs.Keeping.{kept_fewer}
use Rattle.ddf_data_group.proofs.laws.a_loss_of_disks_keeps_the_data.Goals as goal

pub returns : goal.returns
returns c = kept_fewer
