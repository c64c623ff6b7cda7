use Rattle.ddf_data_array.proofs.RowsKept.{rows_go_on}
use Rattle.ddf_data_array.proofs.laws.rows_behind_others_are_set.Goals as goal

pub returns : goal.returns
returns c = λ volume element position from to before image known apart left. rows_go_on volume known apart element position from to before image left
