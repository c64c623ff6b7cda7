use Rattle.std.proofs.Common.{true}
use Rattle.ddf_disk_commands.specs.Label.{label_copy, label_slots}
use Rattle.ddf_disk_commands.specs.LabelRefusal.{label_layout}
use Rattle.ddf_disk_commands.proofs.Chosen.{chosen_once}
use Rattle.ddf_history_steps.proofs.FoundedMember.{all_founded, founded_listed, founded_member}
use Rattle.ddf_command.proofs.laws.a_founded_slot_is_a_current_member.Goals as goal

pub returns-clause-member : goal.returns-clause-member
returns-clause-member g c = λ large revision stamp named old bay founded are_founded past is_new readable slot here read.
    let sizes = (g.B.Bay.disks old).sizes in
    founded_member (label_layout large sizes named) revision stamp sizes (label_slots sizes named) (chosen_once sizes named) (g.B.Bay.disks bay).held founded are_founded past is_new readable slot here read

pub returns-clause-listed : goal.returns-clause-listed
returns-clause-listed g c = λ large revision stamp named old bay founded are_founded past is_new slot here.
    let sizes = (g.B.Bay.disks old).sizes in
    founded_listed (label_layout large sizes named) revision stamp sizes (label_slots sizes named) (chosen_once sizes named) (g.B.Bay.disks bay).held founded are_founded past is_new (λ slot. true) slot here

pub returns-clause-done : goal.returns-clause-done
returns-clause-done g c = λ told large revision stamp named old new tried.
    let before = g.B.Bay.disks old in
    all_founded before (g.B.Bay.disks new) (label_slots before.sizes named) (label_copy large revision stamp before.sizes named) (tried told).1
