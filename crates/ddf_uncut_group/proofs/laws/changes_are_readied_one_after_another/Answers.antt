use Rattle.ddf_uncut_group.proofs.SettledStep.{disks_behind, settled_behind}
use Rattle.ddf_uncut_group.proofs.StepsSettled.{readied_nothing}
use Rattle.ddf_uncut_group.proofs.StepsSplit.{readied_behind, readied_fault, readied_none, split}
use Rattle.ddf_uncut_group.proofs.laws.changes_are_readied_one_after_another.Goals as goal

pub returns-clause-refused : goal.returns-clause-refused
returns-clause-refused c = λ group change changes timestamp refusal settled refused. readied_fault timestamp group settled change changes refusal refused

pub returns-clause-nothing : goal.returns-clause-nothing
returns-clause-nothing c = λ group change changes timestamp settled none. readied_none timestamp group settled change changes none

pub returns-clause-step : goal.returns-clause-step
returns-clause-step c = λ group change changes timestamp step told asked time one there.
    readied_behind timestamp group told.is_settled change changes step one
    (settled_behind group told change asked timestamp time step one there)
    (disks_behind group told change asked timestamp time step one there)

pub returns-clause-none : goal.returns-clause-none
returns-clause-none c = λ group timestamp settled. readied_nothing group settled timestamp

pub returns-clause-first : goal.returns-clause-first
returns-clause-first c = λ group change changes timestamp steps settled is. split timestamp group settled change changes steps is
