use Rattle.ddf_exercise_disks.proofs.FirstResync.{resync_stores}
use Rattle.ddf_exercise_disks.proofs.first.a_resync_leaves_zeros.Goals as goal

pub returns : goal.returns
returns c = λ name total asked out disks apart guid sequence within old new stands empty goes timestamp time enough after status done.
    resync_stores name total asked out disks apart guid sequence within old new stands empty goes timestamp time enough after status done
