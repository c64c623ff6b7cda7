use Rattle.ddf_history_steps.specs.Going.{changes_in}
use Rattle.ddf_history_steps.specs.Kept.{is_read}
use Rattle.ddf_history_behind.proofs.Commands.{issued_loss, issued_near, join_loss, join_near}
use Rattle.ddf_history_behind.proofs.InTurn.{ends_near, keeps_near}
use Rattle.ddf_history_behind.proofs.laws.a_command_leaves_no_disk_far_behind.Goals as goal

pub returns-clause-changes : goal.returns-clause-changes
returns-clause-changes g c = λ group past old new left found asked timestamp steps done are lose current admitted near keeps.
    keeps_near group (g.B.Bay.disks old) (g.B.Bay.disks new) past left found (changes_in found steps) done
    (ends_near group past admitted.is_kept.chain found current near (is_read left) (changes_in found steps) (issued_near found current asked timestamp steps are lose)
    (issued_loss found current asked timestamp steps are))
    keeps

pub returns-clause-joins : goal.returns-clause-joins
returns-clause-joins g c = λ group past old new left native other timestamp made done is current admitted near keeps.
    keeps_near group (g.B.Bay.disks old) (g.B.Bay.disks new) past left native _ done
    (ends_near group past admitted.is_kept.chain native current near (is_read left) _ (join_near native current other timestamp made is)
    (join_loss native current other timestamp made is))
    keeps
