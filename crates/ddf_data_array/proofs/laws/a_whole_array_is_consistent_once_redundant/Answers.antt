use Rattle.ddf_data_array.proofs.Consistent.{whole_consistent}
use Rattle.ddf_data_array.proofs.Given.{have_cells}
use Rattle.ddf_data_array.proofs.laws.a_whole_array_is_consistent_once_redundant.Goals as goal

pub returns-clause-cells : goal.returns-clause-cells
returns-clause-cells c = have_cells

pub returns-clause-consistent : goal.returns-clause-consistent
returns-clause-consistent c = whole_consistent
