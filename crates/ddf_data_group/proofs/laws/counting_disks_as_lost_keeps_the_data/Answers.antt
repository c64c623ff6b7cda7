use Rattle.ddf_data_group.proofs.Keeping.{kept_lost}
use Rattle.ddf_data_group.proofs.laws.counting_disks_as_lost_keeps_the_data.Goals as goal

pub returns : goal.returns
returns c = kept_lost
