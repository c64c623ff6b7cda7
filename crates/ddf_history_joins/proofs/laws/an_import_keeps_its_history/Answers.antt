use Rattle.ddf_history_joins.proofs.JoinKeeps.{import_keeps, import_stands}
use Rattle.ddf_history_joins.proofs.laws.an_import_keeps_its_history.Goals as goal

pub returns-clause-keeps : goal.returns-clause-keeps
returns-clause-keeps g c = λ group past old new timestamp native other recovery join done stands is.
    let bay = g.met.B.Bay in
    import_keeps group past (g.B.Bay.disks old) timestamp native other recovery join stands (g.B.Bay.disks new) done is ((bay.told new).held)

pub returns-clause-stands : goal.returns-clause-stands
returns-clause-stands g c = λ group past old new timestamp native other recovery join stands is tells.
    let bay = g.met.B.Bay in
    import_stands group past (g.B.Bay.disks old) timestamp native other recovery join stands (g.B.Bay.disks new) is ((bay.told new).held tells)
