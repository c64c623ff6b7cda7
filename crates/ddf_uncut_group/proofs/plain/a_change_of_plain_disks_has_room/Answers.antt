use Rattle.ddf_uncut_group.proofs.PlainRefusal.{labelled_room, plain_unrefused, recovery_roomy}
use Rattle.ddf_uncut_group.proofs.plain.a_change_of_plain_disks_has_room.Goals as goal

pub returns-clause-step : goal.returns-clause-step
returns-clause-step c = λ sizes timestamp config disks change are there room free lie. plain_unrefused sizes timestamp config disks change are there room free lie

pub returns-clause-recovery : goal.returns-clause-recovery
returns-clause-recovery c = λ sizes timestamp group are room none. recovery_roomy sizes timestamp group are room none

pub returns-clause-labelled : goal.returns-clause-labelled
returns-clause-labelled c = λ stamp sizes few. labelled_room stamp sizes few
