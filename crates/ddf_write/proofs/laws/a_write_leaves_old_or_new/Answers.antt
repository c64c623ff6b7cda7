use Rattle.ddf_write.proofs.WriteLeaves.{cell_old_or_new, cell_stays}
use Rattle.ddf_write.proofs.laws.a_write_leaves_old_or_new.Goals as goal

pub returns-clause-written : goal.returns-clause-written
returns-clause-written c = λ volume start k i sectors before after one known apart left at. cell_old_or_new volume known apart start sectors before after left k i one at

pub returns-clause-others : goal.returns-clause-others
returns-clause-others c = λ volume start block i sectors before after one known apart left other at. cell_stays volume known apart start sectors before after left block i one other at
