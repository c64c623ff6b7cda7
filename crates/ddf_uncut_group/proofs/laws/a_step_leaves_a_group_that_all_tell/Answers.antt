use Rattle.ddf_uncut_group.proofs.SettledStep.{seats_behind, told_behind}
use Rattle.ddf_uncut_group.proofs.SettledWritten.{step_settled}
use Rattle.ddf_uncut_group.proofs.laws.a_step_leaves_a_group_that_all_tell.Goals as goal

pub returns-clause-told : goal.returns-clause-told
returns-clause-told c = λ group change timestamp step told asked time ready stay. told_behind group told change asked timestamp time step ready stay

pub returns-clause-seats : goal.returns-clause-seats
returns-clause-seats c = λ group change timestamp step told asked time ready stay. seats_behind group told change asked timestamp time step ready stay

pub returns-clause-held : goal.returns-clause-held
returns-clause-held c = λ sizes old new left group change timestamp step settled asked time ready stay written.
    step_settled sizes old new left group change timestamp step settled asked time ready stay written
