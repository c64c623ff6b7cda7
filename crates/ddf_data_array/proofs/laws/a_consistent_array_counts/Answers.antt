use Rattle.ddf_data_array.proofs.Consistent.{counted_may, kept_consistent, value_may}
use Rattle.ddf_data_array.proofs.laws.a_consistent_array_counts.Goals as goal

pub returns-clause-kept : goal.returns-clause-kept
returns-clause-kept c = kept_consistent

pub returns-clause-may : goal.returns-clause-may
returns-clause-may c = value_may

pub returns-clause-counted : goal.returns-clause-counted
returns-clause-counted c = counted_may
