use Rattle.ddf_uncut_group.proofs.StepsSettled.{seats_kept, steps_settled, told_by_all}
use Rattle.ddf_uncut_group.proofs.laws.steps_leave_a_group_that_all_tell.Goals as goal

pub returns-clause-told : goal.returns-clause-told
returns-clause-told c = λ group changes timestamp steps told asked time ready stay. told_by_all timestamp time changes group steps told asked ready stay

pub returns-clause-seats : goal.returns-clause-seats
returns-clause-seats c = λ group changes timestamp steps told asked time ready stay. seats_kept timestamp time changes group steps told asked ready stay

pub returns-clause-held : goal.returns-clause-held
returns-clause-held c = λ sizes old new left group changes timestamp steps settled asked time ready stay written.
    steps_settled timestamp time changes sizes old new left group steps settled asked ready stay written
