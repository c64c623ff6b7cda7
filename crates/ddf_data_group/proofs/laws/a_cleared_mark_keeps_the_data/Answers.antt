use Rattle.ddf_data_group.proofs.Cleared.{cleared}
use Rattle.ddf_data_group.proofs.laws.a_cleared_mark_keeps_the_data.Goals as goal

pub returns : goal.returns
returns c = cleared
