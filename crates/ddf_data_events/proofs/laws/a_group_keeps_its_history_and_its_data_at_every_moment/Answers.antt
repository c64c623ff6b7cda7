use Rattle.ddf_data_events.proofs.Bays.{AreBays}
use Rattle.ddf_data_events.proofs.Happening.{keeps_on}
use Rattle.ddf_data_events.proofs.laws.a_group_keeps_its_history_and_its_data_at_every_moment.Goals as goal

pub returns : goal.returns
returns g c = λ told group start all events.
    let are : AreBays g.B.Bay.disks = g.met.B.Bay.told in
    keeps_on told g.B.Bay.disks g.S.Source.tells g.S.Source.input group are events start all
