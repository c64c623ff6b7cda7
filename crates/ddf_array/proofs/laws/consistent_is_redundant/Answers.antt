use Rattle.ddf_array.proofs.Consistent.{redundant_if, consistent_if}
use Rattle.ddf_array.proofs.laws.consistent_is_redundant.Goals as goal

pub returns-clause-redundant : goal.returns-clause-redundant
returns-clause-redundant c = redundant_if

pub returns-clause-consistent : goal.returns-clause-consistent
returns-clause-consistent c = consistent_if
