use Rattle.std.proofs.Common.{inl, inr, ⊎_elim}
use Rattle.std.proofs.lemmas.Result.{on_ok_weaker}
use Rattle.ddf_update.proofs.FoundingShows.{since_weaken}
use Rattle.ddf_update.proofs.MovingShows.{moved, moving, moving_apart}
use Rattle.ddf_update.proofs.disk.relocate.Goals as goal

pub returns-clause-relocate : goal.returns-clause-relocate
returns-clause-relocate g c = λ tells anchor last old copy is can.
    let disks = (g.B.Bay.disks c.args.bay.now) in
    let prepared = c.args.prepared.now in
    let apart = moving_apart disks c.args.slot anchor last old copy prepared is can in
    ⊎_elim inl (λ since. inr (since_weaken (moving disks c.args.slot anchor last old copy prepared is can) since))
    (rw c.items-runs.ensures at c.write_founding.ensures.any_moment tells apart.0 apart.1 apart.2 apart.3)

pub returns-clause-relocated : goal.returns-clause-relocated
returns-clause-relocated g c = λ tells anchor last old copy is can.
    let disks = (g.B.Bay.disks c.args.bay.now) in
    let prepared = c.args.prepared.now in
    let apart = moving_apart disks c.args.slot anchor last old copy prepared is can in
    on_ok_weaker c.write_founding.result
    (moved disks c.args.slot anchor last old copy prepared is can (g.B.Bay.disks c.write_founding.new.bay))
    (rw c.items-runs.ensures at c.write_founding.ensures.founded tells apart.0 apart.1 apart.2 apart.3)
