use Rattle.ddf_history_steps.proofs.Below.{all_kept, floors_stay, moments_kept, stands_still}
use Rattle.ddf_history_steps.proofs.blocks.blocks_keep_a_history.Goals as goal

pub returns-clause-any_moment : goal.returns-clause-any_moment
returns-clause-any_moment g c = λ group past old new found floor end floors below.
    moments_kept floor (g.B.Bay.disks old) (g.B.Bay.disks new) floors below group past found end

pub returns-clause-ends : goal.returns-clause-ends
returns-clause-ends g c = λ group past old new found floor end floors below.
    all_kept floor (g.B.Bay.disks old) (g.B.Bay.disks new) floors below group past found end

pub returns-clause-stands : goal.returns-clause-stands
returns-clause-stands g c = λ group past old new found floor end floors below stay tells.
    stands_still floor (g.B.Bay.disks old) (g.B.Bay.disks new) floors below group past found end stay ((g.met.B.Bay.told new).held tells)

pub returns-clause-floors : goal.returns-clause-floors
returns-clause-floors g c = λ old new floor floors below stay. floors_stay floor (g.B.Bay.disks old) (g.B.Bay.disks new) floors below stay
