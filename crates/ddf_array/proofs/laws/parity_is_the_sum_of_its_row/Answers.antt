use Rattle.ddf_array.proofs.RowParity.{parity_is_sum}
use Rattle.ddf_array.proofs.laws.parity_is_the_sum_of_its_row.Goals as goal

pub returns : goal.returns
returns c = parity_is_sum
