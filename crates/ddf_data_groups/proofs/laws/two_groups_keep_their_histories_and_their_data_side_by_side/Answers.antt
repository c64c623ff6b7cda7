use Rattle.ddf_data_events.proofs.Bays.{AreBays}
use Rattle.ddf_data_groups.proofs.Going.{stay_beside}
use Rattle.ddf_data_groups.proofs.laws.two_groups_keep_their_histories_and_their_data_side_by_side.Goals as goal

pub returns : goal.returns
returns g c = λ told one other start beside events.
    let are : AreBays g.B.Bay.disks = g.met.B.Bay.told in
    stay_beside told g.B.Bay.disks g.S.Source.tells g.S.Source.input are (c.a_change_of_another_group_is_aside.ensures told) events one other start beside
