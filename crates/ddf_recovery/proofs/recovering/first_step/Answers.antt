use Rattle.std.proofs.Common.{◌∙◌}
use Rattle.ddf_seats.specs.Leading.{leading_disks}
use Rattle.ddf_recovery.proofs.recovering.first_step.Goals as goal

pub full_of_recovery-requires-clause-leaders : goal.full_of_recovery-requires-clause-leaders
unfolding leading_disks
full_of_recovery-requires-clause-leaders c =
    c.deref.ensures.value ∙ (rw (c.config.ensures, c.requires.disks) at c.in_ok-leaders.ensures)

pub recovery-requires-clause-leaders : goal.recovery-requires-clause-leaders
unfolding leading_disks
recovery-requires-clause-leaders c =
    c.deref-2.ensures.value ∙ (rw (c.config.ensures, c.requires.disks) at c.in_ok-leaders.ensures)
