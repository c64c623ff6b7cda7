use Rattle.ddf_exercise_disks.proofs.FirstLabel.{label_founds}
use Rattle.ddf_exercise_disks.proofs.first.a_label_founds_the_group_on_new_disks.Goals as goal

pub returns : goal.returns
returns c = λ total old new made stamp enough goes after status done. label_founds total old made stamp enough new goes after status done
