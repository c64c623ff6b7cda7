use Rattle.ddf_uncut_group.proofs.PlainLabelling.{labelled_settles}
use Rattle.ddf_uncut_group.proofs.plain.labelled_disks_are_a_settled_group.Goals as goal

pub returns : goal.returns
returns g c = λ revision stamp old new few none fit first. labelled_settles revision stamp (g.B.Bay.disks old) (g.B.Bay.disks new) few none fit first
