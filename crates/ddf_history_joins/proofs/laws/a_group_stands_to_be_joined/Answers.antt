use Rattle.ddf_history_joins.proofs.JoinTaken.{stands_to_join, was_taken}
use Rattle.ddf_history_joins.proofs.laws.a_group_stands_to_be_joined.Goals as goal

pub returns-clause-recovers : goal.returns-clause-recovers
returns-clause-recovers g c = λ old left also_left named also_named native other timestamp recovery join taken.
    was_taken (g.B.Bay.disks old) left also_left named also_named native other timestamp recovery join taken

pub returns-clause-stands : goal.returns-clause-stands
returns-clause-stands g c = λ group past old new left also_left named also_named native other timestamp recovery join taken end others admits.
    stands_to_join (g.B.Bay.disks old) left also_left named also_named native other timestamp recovery join taken group past (g.B.Bay.disks new) end others admits
