use Rattle.ddf_data_life.proofs.Labels.{label_begins}
use Rattle.ddf_data_life.proofs.laws.a_label_of_all_disks_begins_a_history_of_data.Goals as goal

pub returns : goal.returns
returns c = λ large revision stamp old new tried same_sizes told told_new. label_begins large revision stamp old new tried same_sizes told told_new
