use Rattle.ddf_data_lives.proofs.Standing.{label_stands}
use Rattle.ddf_data_lives.proofs.laws.a_label_of_all_disks_leaves_each_standing.Goals as goal

pub returns : goal.returns
returns c = λ large revision stamp old new kept tried same_sizes told told_new there plugged. label_stands large revision stamp old new kept tried same_sizes told told_new there plugged
