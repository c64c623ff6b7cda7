use Rattle.ddf_data_events.proofs.Bays.{AreBays}
use Rattle.ddf_data_groups.proofs.Aside.{call_aside}
use Rattle.ddf_data_groups.proofs.laws.a_call_of_another_group_is_aside.Goals as goal

pub returns : goal.returns
returns g c = λ told one other both beside tells_left call own same_sizes.
    let are : AreBays g.B.Bay.disks = g.met.B.Bay.told in
    call_aside told g.B.Bay.disks g.S.Source.tells g.S.Source.input are one other both beside tells_left (c.a_change_of_another_group_is_aside.ensures told) call own same_sizes
