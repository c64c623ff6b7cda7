use Rattle.ddf_data_array.proofs.RowsKept.{no_rows_kept}
use Rattle.ddf_data_array.proofs.laws.an_array_without_rows_keeps_them.Goals as goal

pub returns : goal.returns
returns c = no_rows_kept
