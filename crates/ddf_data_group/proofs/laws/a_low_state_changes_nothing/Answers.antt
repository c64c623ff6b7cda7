use Rattle.ddf_data_group.proofs.Cleared.{same_marked}
use Rattle.ddf_data_group.proofs.laws.a_low_state_changes_nothing.Goals as goal

pub returns : goal.returns
returns c = same_marked
