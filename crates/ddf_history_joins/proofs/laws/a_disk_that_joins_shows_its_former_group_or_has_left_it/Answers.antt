use Rattle.ddf_history_joins.proofs.JoinForeign.{former_disks}
use Rattle.ddf_history_joins.proofs.JoinKeeps.{import_keeps}
use Rattle.ddf_history_joins.proofs.laws.a_disk_that_joins_shows_its_former_group_or_has_left_it.Goals as goal

pub returns : goal.returns
returns g c = λ group former past former_past old new timestamp native other recovery join done stands is differ kept.
    let bay = g.met.B.Bay in
    former_disks group former differ former_past (g.B.Bay.disks old) (g.B.Bay.disks new) join kept stands.at_end.is_left
    (import_keeps group past (g.B.Bay.disks old) timestamp native other recovery join stands (g.B.Bay.disks new) done is ((bay.told new).held)).taken_over
