use Rattle.ddf_stage_promise.proofs.Writing.{writing_keeps, writing_shows, written_keeps}
use Rattle.ddf_stage_promise.proofs.laws.a_staged_write_keeps_the_data_of_the_group.Goals as goal

pub returns-clause-keeps : goal.returns-clause-keeps
returns-clause-keeps c = λ group footing small past_floors past alone number config since known before image promises are kept none staged allowed promised v view desks may moment only.
    writing_keeps group footing small past_floors past alone number config since known before image are promises kept none staged allowed promised v view desks may moment only

pub returns-clause-shows : goal.returns-clause-shows
returns-clause-shows c = λ group footing small past_floors past alone number config since known before image promises are kept none staged allowed promised v view desks may moment only.
    writing_shows group footing small past_floors past alone number config since known before image are promises kept none staged allowed promised v view desks may moment only

pub returns-clause-once : goal.returns-clause-once
returns-clause-once c = λ group footing small past_floors past alone number config since known before image promises are kept none staged allowed promised v view desks may moment new shut only.
    written_keeps group footing small past_floors past alone number config since known before image are promises kept none staged allowed promised v view desks may moment new shut only
