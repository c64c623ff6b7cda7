use Rattle.std.proofs.Common.{inl, inr, ⊎_elim}
use Rattle.std.proofs.lemmas.Result.{on_ok_weaker}
use Rattle.ddf_update.proofs.AdoptingShows.{adopted, adopting, adopting_apart}
use Rattle.ddf_update.proofs.FoundingShows.{since_weaken}
use Rattle.ddf_update.proofs.disk.adopt.Goals as goal

pub returns-clause-adopt : goal.returns-clause-adopt
returns-clause-adopt g c = λ tells anchor last old copy is can.
    let disks = (g.B.Bay.disks c.args.bay.now) in
    let prepared = c.args.prepared.now in
    let apart = adopting_apart disks c.args.slot anchor last old copy prepared is can in
    ⊎_elim inl (λ since. inr (since_weaken (adopting disks c.args.slot anchor last old copy prepared is can) since))
    (rw c.items-runs.ensures at c.write_adoption.ensures.any_moment tells apart.0 apart.1 apart.2 apart.3)

pub returns-clause-adopted : goal.returns-clause-adopted
returns-clause-adopted g c = λ tells anchor last old copy is can.
    let disks = (g.B.Bay.disks c.args.bay.now) in
    let prepared = c.args.prepared.now in
    let apart = adopting_apart disks c.args.slot anchor last old copy prepared is can in
    on_ok_weaker c.write_adoption.result
    (adopted disks c.args.slot anchor last old copy prepared is can (g.B.Bay.disks c.write_adoption.new.bay))
    (rw c.items-runs.ensures at c.write_adoption.ensures.adopted tells apart.0 apart.1 apart.2 apart.3)
