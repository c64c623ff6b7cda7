use Rattle.ddf_command.proofs.Cut.{cut_assembles, cut_begins, cut_founded, cut_others}
use Rattle.ddf_command.proofs.laws.a_label_cut_short_begins_a_history.Goals as goal

pub returns-clause-begins : goal.returns-clause-begins
returns-clause-begins g c = λ large revision stamp named old new cut founded is_new left past is_start.
    cut_begins large revision stamp named (g.B.Bay.disks old) (g.B.Bay.disks new) ((g.met.B.Bay.told old).only_now) is_new (g.B.Bay.disks cut) founded left past is_start

pub returns-clause-founded : goal.returns-clause-founded
returns-clause-founded g c = λ large revision stamp named old new image is_new was_left.
    cut_founded large revision stamp named (g.B.Bay.disks old) (g.B.Bay.disks new) ((g.met.B.Bay.told old).only_now) is_new image was_left

pub returns-clause-others : goal.returns-clause-others
returns-clause-others g c = λ large revision stamp named old new image founded is_new was_left are_founded.
    cut_others large revision stamp named (g.B.Bay.disks old) (g.B.Bay.disks new) ((g.met.B.Bay.told old).only_now) is_new image was_left founded are_founded

pub returns-clause-assembles : goal.returns-clause-assembles
returns-clause-assembles g c = λ large revision stamp named old new cut founded is_new left held out long slot here readable.
    cut_assembles large revision stamp named (g.B.Bay.disks old) (g.B.Bay.disks new) ((g.met.B.Bay.told old).only_now) is_new (g.B.Bay.disks cut) founded left held out long slot here readable
