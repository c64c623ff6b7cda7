use Rattle.ddf_data_events.proofs.Bays.{AreBays}
use Rattle.ddf_data_groups.proofs.Labelled.{labelled_beside, new_members}
use Rattle.ddf_data_groups.proofs.laws.a_group_is_labelled_beside_another.Goals as goal

pub returns-clause-stands : goal.returns-clause-stands
returns-clause-stands g c = λ told one old keeps its large revision stamp named new label past is_new.
    let are : AreBays g.B.Bay.disks = g.met.B.Bay.told in
    labelled_beside told g.B.Bay.disks g.S.Source.tells g.S.Source.input are (c.a_label_is_aside_of_other_histories.ensures told) g.met.B.Bay.small one old keeps its large revision stamp named new label past is_new

pub returns-clause-begins : goal.returns-clause-begins
returns-clause-begins g c = λ group past sizes slots copy founded is_new. new_members group past sizes slots copy founded is_new
