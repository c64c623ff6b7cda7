use Rattle.ddf_data_array.proofs.MovedKept.{kept_moved}
use Rattle.ddf_data_array.proofs.laws.a_place_that_moves_changes_nothing.Goals as goal

pub returns : goal.returns
returns c = λ is_absent volume image allowed element position slot start known is kept. kept_moved volume known image element position slot start is is_absent allowed kept
