use Rattle.ddf_write.proofs.WrittenValues.{value_kept, value_written}
use Rattle.ddf_write.proofs.laws.a_write_gives_values.Goals as goal

pub returns-clause-written : goal.returns-clause-written
returns-clause-written c = λ volume start k i sectors image one written below at. value_written volume start sectors ⊥ image written k i one below at

pub returns-clause-others : goal.returns-clause-others
returns-clause-others c = λ volume start block i sectors before after one known apart left other at. value_kept volume known apart start sectors before after left block i one other at
