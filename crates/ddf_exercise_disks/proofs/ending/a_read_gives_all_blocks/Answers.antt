use Rattle.ddf_exercise_disks.proofs.EndsReads.{read_stores}
use Rattle.ddf_exercise_disks.proofs.ending.a_read_gives_all_blocks.Goals as goal

pub returns : goal.returns
returns c = λ name total asked out disks guid turn sequence bytes old new apart enough stores reads long after status done.
    read_stores name total asked out disks apart guid turn sequence bytes enough old new stores reads after status long done
