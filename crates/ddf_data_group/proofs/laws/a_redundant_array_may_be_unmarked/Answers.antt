use Rattle.ddf_data_group.proofs.Readied.{redundant_may}
use Rattle.ddf_data_group.proofs.laws.a_redundant_array_may_be_unmarked.Goals as goal

pub returns : goal.returns
returns c = redundant_may
