use Rattle.ddf_data_group.proofs.Agreed.{agreed}
use Rattle.ddf_data_group.proofs.laws.an_array_rests_on_its_own_members.Goals as goal

pub returns : goal.returns
returns c = agreed
