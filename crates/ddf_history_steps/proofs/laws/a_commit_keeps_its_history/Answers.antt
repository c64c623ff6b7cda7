use Rattle.std.proofs.Common.{refl}
use Rattle.ddf_history_steps.proofs.CommittingKeeps.{commit_keeps, may, stands_behind}
use Rattle.ddf_history_steps.proofs.laws.a_commit_keeps_its_history.Goals as goal

pub returns-clause-keeps : goal.returns-clause-keeps
returns-clause-keeps g c = λ group past old new found ready done stands is.
    let bay = g.met.B.Bay in
    commit_keeps group past (g.B.Bay.disks old) found ready.recovery (g.B.Bay.disks new) is.spends.same_sizes ((bay.told new).counts) ((bay.told old).only_now)
    ready.steps stands done is ((bay.told new).held)

pub returns-clause-stands : goal.returns-clause-stands
returns-clause-stands g c = λ group past old new found ready stands is tells.
    let bay = g.met.B.Bay in
    let can = may group past (g.B.Bay.disks old) found ready.recovery ready.steps stands in
    stands_behind group past (g.B.Bay.disks old) found ready.recovery (g.B.Bay.disks new) is.spends.same_sizes ready.steps stands
    (is.changed refl can.seat can.may_change) ((bay.told new).held tells)
