use Rattle.ddf_data_events.proofs.Bays.{AreBays}
use Rattle.ddf_data_groups.proofs.ImportAside.{import_aside}
use Rattle.ddf_data_groups.proofs.laws.an_import_is_aside_of_a_third_group.Goals as goal

pub returns : goal.returns
returns g c = λ told one other both beside tells_left call known joins same_sizes.
    let are : AreBays g.B.Bay.disks = g.met.B.Bay.told in
    import_aside told g.B.Bay.disks g.S.Source.tells g.S.Source.input are one other both beside tells_left call known joins same_sizes
