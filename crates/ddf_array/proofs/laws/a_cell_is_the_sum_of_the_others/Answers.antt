use Rattle.ddf_array.proofs.RowParity.{cell_from_whole}
use Rattle.ddf_array.proofs.laws.a_cell_is_the_sum_of_the_others.Goals as goal

pub returns : goal.returns
returns c = cell_from_whole
