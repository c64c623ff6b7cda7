use Rattle.ddf_uncut_group.proofs.PlainCopies.{changed_plain, levelled_plain, loss_plain, new_plain, step_plain, written_plain}
use Rattle.ddf_uncut_group.proofs.PlainSteps.{readied_plain}
use Rattle.ddf_uncut_group.proofs.plain.copies_of_a_new_group_stay_plain.Goals as goal

pub returns-clause-new : goal.returns-clause-new
returns-clause-new c = λ revision stamp sizes place. new_plain revision stamp sizes place

pub returns-clause-written : goal.returns-clause-written
returns-clause-written c = λ size copy which is. written_plain size copy which is

pub returns-clause-changed : goal.returns-clause-changed
returns-clause-changed c = λ size old leaders config timestamp is. changed_plain size old is leaders config timestamp

pub returns-clause-step : goal.returns-clause-step
returns-clause-step c = λ sizes timestamp config disks change are. step_plain sizes timestamp config disks change are

pub returns-clause-loss : goal.returns-clause-loss
returns-clause-loss c = λ sizes timestamp group are. loss_plain sizes timestamp group are

pub returns-clause-levelled : goal.returns-clause-levelled
returns-clause-levelled c = λ sizes disks are. levelled_plain sizes disks are

pub returns-clause-steps : goal.returns-clause-steps
returns-clause-steps c = λ sizes group changes timestamp steps are is. readied_plain sizes group changes timestamp steps are is
