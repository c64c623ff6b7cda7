use Rattle.std.proofs.Common.{inl, inr, ⊎_elim}
use Rattle.std.proofs.lemmas.Result.{on_ok_weaker}
use Rattle.ddf_update.proofs.FoundingShows.{founded, founding, lie_apart, since_weaken}
use Rattle.ddf_update.proofs.disk.found.Goals as goal

pub returns-clause-found : goal.returns-clause-found
returns-clause-found g c = λ tells last copy is can.
    let disks = (g.B.Bay.disks c.args.bay.now) in
    let prepared = c.args.prepared.now in
    let apart = lie_apart disks c.args.slot last copy prepared is can in
    ⊎_elim inl (λ since. inr (since_weaken (founding disks c.args.slot last copy prepared is can) since))
    (rw c.items-runs.ensures at c.write_founding.ensures.any_moment tells apart.0 apart.1 apart.2 apart.3)

pub returns-clause-founded : goal.returns-clause-founded
returns-clause-founded g c = λ tells last copy is can.
    let disks = (g.B.Bay.disks c.args.bay.now) in
    let prepared = c.args.prepared.now in
    let apart = lie_apart disks c.args.slot last copy prepared is can in
    on_ok_weaker c.write_founding.result
    (founded disks c.args.slot last copy prepared is can (g.B.Bay.disks c.write_founding.new.bay))
    (rw c.items-runs.ensures at c.write_founding.ensures.founded tells apart.0 apart.1 apart.2 apart.3)
