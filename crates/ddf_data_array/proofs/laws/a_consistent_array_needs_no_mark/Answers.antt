use Rattle.ddf_data_array.proofs.Consistent.{kept_unmarked}
use Rattle.ddf_data_array.proofs.laws.a_consistent_array_needs_no_mark.Goals as goal

pub returns : goal.returns
returns c = kept_unmarked
