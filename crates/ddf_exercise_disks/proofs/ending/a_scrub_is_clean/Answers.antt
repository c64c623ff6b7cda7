use Rattle.ddf_exercise_disks.proofs.EndsReads.{scrub_stores}
use Rattle.ddf_exercise_disks.proofs.ending.a_scrub_is_clean.Goals as goal

pub returns : goal.returns
returns c = λ name total asked out disks guid turn sequence bytes old new apart enough stores reads after status done.
    scrub_stores name total asked out disks apart guid turn sequence bytes enough old new stores reads after status done
