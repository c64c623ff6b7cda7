use Rattle.ddf_data_group.proofs.Keeping.{kept_staying}
use Rattle.ddf_data_group.proofs.laws.a_disk_in_the_place_of_another_keeps_the_data.Goals as goal

pub returns : goal.returns
returns c = kept_staying
