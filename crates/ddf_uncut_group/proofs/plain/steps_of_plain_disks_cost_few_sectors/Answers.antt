use Rattle.ddf_uncut_group.proofs.PlainReadied.{readied_few}
use Rattle.ddf_uncut_group.proofs.PlainSteps.{disks_cost, seats_readied}
use Rattle.ddf_uncut_group.proofs.plain.steps_of_plain_disks_cost_few_sectors.Goals as goal

pub returns-clause-counted : goal.returns-clause-counted
returns-clause-counted c = λ group changes timestamp steps is. readied_few group changes timestamp steps is

pub returns-clause-seats : goal.returns-clause-seats
returns-clause-seats c = λ group changes timestamp steps is. seats_readied group changes timestamp steps is

pub returns-clause-sectors : goal.returns-clause-sectors
returns-clause-sectors c = λ sizes disks are. disks_cost sizes disks are
