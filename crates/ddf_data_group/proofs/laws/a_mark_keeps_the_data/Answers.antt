use Rattle.ddf_data_group.proofs.Keeping.{kept_marked}
use Rattle.ddf_data_group.proofs.laws.a_mark_keeps_the_data.Goals as goal

pub returns : goal.returns
returns c = kept_marked
