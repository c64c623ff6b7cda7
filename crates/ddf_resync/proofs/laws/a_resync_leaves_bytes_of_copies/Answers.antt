use Rattle.ddf_resync.proofs.Leaves.{held_before, same_where_redundant}
use Rattle.ddf_resync.proofs.laws.a_resync_leaves_bytes_of_copies.Goals as goal

pub returns-clause-taken : goal.returns-clause-taken
returns-clause-taken c = λ v block i before after one known apart left at. held_before v known apart before after left block i one at

pub returns-clause-same : goal.returns-clause-same
returns-clause-same c = λ v block i before after one known apart left is at. same_where_redundant v known apart before after left is block i one at
