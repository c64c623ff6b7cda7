use Rattle.ddf_disk_commands.specs.Label.{label_copy, label_slots}
use Rattle.ddf_update.specs.NewCopies.{group_of as name_of}
use Rattle.ddf_data_events.proofs.Bays.{AreBays}
use Rattle.ddf_data_events.proofs.Beginning.{cut_shows, founded_begins}
use Rattle.ddf_data_events.proofs.laws.a_label_cut_short_begins_a_history_of_data.Goals as goal

pub returns : goal.returns
returns g c = λ large revision stamp named old new cut founded is_new_label left tells_left past is_new.
    let are : AreBays g.B.Bay.disks = g.met.B.Bay.told in
    let before = g.B.Bay.disks old in
    founded_begins g.B.Bay.disks are g.met.B.Bay.small (name_of stamp) past cut tells_left before.sizes (label_slots before.sizes named) left.same_sizes (label_copy large revision stamp before.sizes named) founded is_new
    left.are_founded (cut_shows large revision stamp named before (g.B.Bay.disks new) (g.B.Bay.disks cut) ((g.met.B.Bay.told old).only_now) is_new_label founded left past is_new)
