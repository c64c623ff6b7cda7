use Rattle.ddf_exercise_disks.proofs.Standing.{change_stands}
use Rattle.ddf_exercise_disks.proofs.laws.a_change_is_done.Goals as goal

pub returns : goal.returns
returns c = λ name total asked out config seats old new stands goes timestamp time request changes next requested are same enough after status done.
    change_stands name total asked out config seats old new stands goes timestamp time request changes next requested are same enough after status done
