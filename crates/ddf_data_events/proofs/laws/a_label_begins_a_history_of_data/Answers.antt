use Rattle.ddf_disk_commands.specs.Label.{label_copy, label_slots}
use Rattle.ddf_disk_commands.specs.LabelRefusal.{label_layout}
use Rattle.ddf_disk_commands.proofs.Chosen.{chosen_once}
use Rattle.ddf_history_steps.specs.Kept.{is_slot}
use Rattle.ddf_history_steps.proofs.Founding.{founded_since}
use Rattle.ddf_update.specs.NewCopies.{group_of as name_of}
use Rattle.ddf_data_events.proofs.Bays.{AreBays}
use Rattle.ddf_data_events.proofs.Beginning.{all_in, founded_begins}
use Rattle.ddf_data_events.proofs.laws.a_label_begins_a_history_of_data.Goals as goal

pub returns : goal.returns
returns g c = λ told large revision stamp named old new tried same_sizes is_left tells_left names_new past is_new.
    let are : AreBays g.B.Bay.disks = g.met.B.Bay.told in
    let before = g.B.Bay.disks old in
    let slots = label_slots before.sizes named in
    let copy = label_copy large revision stamp before.sizes named in
    let one = tried told in
    founded_begins g.B.Bay.disks are g.met.B.Bay.small (name_of stamp) past new tells_left before.sizes slots same_sizes copy (is_slot slots) is_new
    (λ image left. all_in before (g.B.Bay.disks new) slots copy one.1 image left)
    (founded_since (label_layout large before.sizes named) revision stamp before (g.B.Bay.disks new) same_sizes slots (chosen_once before.sizes named) one.1 past is_new is_left names_new)
