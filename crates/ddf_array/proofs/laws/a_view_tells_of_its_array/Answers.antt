use Rattle.ddf_array.proofs.Told.{told_capacity, told_within, told_redundant}
use Rattle.ddf_array.proofs.laws.a_view_tells_of_its_array.Goals as goal

pub returns-clause-capacity : goal.returns-clause-capacity
returns-clause-capacity c = told_capacity

pub returns-clause-within : goal.returns-clause-within
returns-clause-within c = told_within

pub returns-clause-redundant : goal.returns-clause-redundant
returns-clause-redundant c = told_redundant
