use Rattle.ddf_stage_promise.proofs.Closing.{closing_keeps, closing_shows}
use Rattle.ddf_stage_promise.proofs.laws.closing_gates_keeps_what_is_staged.Goals as goal

pub returns-clause-keeps : goal.returns-clause-keeps
returns-clause-keeps c = λ group footing small past_floors past alone number config since known before image promises are kept one staged is_stage first v view desks to_close moment only.
    closing_keeps group footing small past_floors past alone number config since known before image are promises kept one staged is_stage first v view desks to_close moment only

pub returns-clause-shows : goal.returns-clause-shows
returns-clause-shows c = λ group footing small past_floors past alone number config since known before image promises are kept one staged is_stage first v view desks to_close moment only.
    closing_shows group footing small past_floors past alone number config since known before image are promises kept one staged is_stage first v view desks to_close moment only
