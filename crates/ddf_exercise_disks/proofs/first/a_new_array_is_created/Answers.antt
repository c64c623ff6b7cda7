use Rattle.ddf_exercise_disks.proofs.FirstChange.{creation_stands}
use Rattle.ddf_exercise_disks.proofs.first.a_new_array_is_created.Goals as goal

pub returns : goal.returns
returns c = λ stamp total asked old new stands empty goes timestamp time enough after status done. creation_stands stamp total asked old new stands empty goes timestamp time enough after status done
