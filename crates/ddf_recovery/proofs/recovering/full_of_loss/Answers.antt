use Rattle.ddf_assembly.proofs.Leaders.{led_on}
use Rattle.ddf_recovery.proofs.Lost.{lost_held}
use Rattle.ddf_recovery.proofs.recovering.full_of_loss.Goals as goal

pub full_of-requires-clause-leaders : goal.full_of-requires-clause-leaders
full_of-requires-clause-leaders c = rw (c.requires.leaders, c.requires.disks) (led_on c.args.group.now c.requires.assembled)

pub full_of-requires-clause-held : goal.full_of-requires-clause-held
full_of-requires-clause-held c = rw (c.in_ok-next.ensures, c.requires.disks) (lost_held c.args.group.now c.requires.assembled)
