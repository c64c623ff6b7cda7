use Rattle.ddf_history_steps.proofs.Founding.{founded_since}
use Rattle.ddf_disk_commands.specs.Label.{label_slots}
use Rattle.ddf_disk_commands.specs.LabelRefusal.{label_layout}
use Rattle.ddf_disk_commands.proofs.Chosen.{chosen_once}
use Rattle.ddf_command.proofs.laws.a_label_begins_a_history.Goals as goal

pub returns : goal.returns
returns g c = λ told large revision stamp named old new tried same_sizes is_left names_new past is_new.
    let one = tried told in
    let before = g.B.Bay.disks old in
    founded_since (label_layout large before.sizes named) revision stamp before (g.B.Bay.disks new) same_sizes (label_slots before.sizes named) (chosen_once before.sizes named) one.1 past is_new
    is_left names_new
