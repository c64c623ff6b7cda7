use Rattle.ddf_data_array.proofs.Written.{kept_any}
use Rattle.ddf_data_array.proofs.laws.whatever_a_new_array_holds_is_any_bytes.Goals as goal

pub returns : goal.returns
returns c = kept_any
