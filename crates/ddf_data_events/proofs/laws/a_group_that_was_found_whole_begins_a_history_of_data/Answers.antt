use Rattle.ddf_data_events.proofs.Bays.{AreBays}
use Rattle.ddf_data_events.proofs.Beginning.{found_begins}
use Rattle.ddf_data_events.proofs.laws.a_group_that_was_found_whole_begins_a_history_of_data.Goals as goal

pub returns : goal.returns
returns g c = λ group bay found begins tells_left settled.
    let are : AreBays g.B.Bay.disks = g.met.B.Bay.told in
    found_begins g.B.Bay.disks are g.met.B.Bay.small group begins.past bay tells_left found begins.acked_is begins.issued_is begins.lost_none begins.returned_none begins.kept settled
