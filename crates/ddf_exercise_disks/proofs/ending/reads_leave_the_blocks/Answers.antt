use Rattle.ddf_exercise_disks.proofs.EndsReads.{stores_still}
use Rattle.ddf_exercise_disks.proofs.ending.reads_leave_the_blocks.Goals as goal

pub returns : goal.returns
returns c = λ name total asked out disks guid turn sequence bytes old new apart enough stores reads. stores_still name total asked out disks apart guid turn sequence bytes enough old new stores reads
