use Rattle.ddf_exercise_disks.proofs.FirstChange.{first_spare_stores, second_spare_stores}
use Rattle.ddf_exercise_disks.proofs.first.spares_leave_the_blocks.Goals as goal

pub returns-clause-first : goal.returns-clause-first
returns-clause-first c = λ name total asked out disks apart guid sequence within bytes old new goes stamp timestamp time enough after status stores done.
    first_spare_stores name total asked out disks apart guid sequence within bytes old new goes stamp timestamp time enough after status stores done

pub returns-clause-second : goal.returns-clause-second
returns-clause-second c = λ name total asked out disks apart guid sequence within bytes old new goes stamp timestamp time enough after status stores done.
    second_spare_stores name total asked out disks apart guid sequence within bytes old new goes stamp timestamp time enough after status stores done
