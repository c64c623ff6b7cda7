use Rattle.ddf_stage_promise.proofs.Plain.{closed_keeps, closed_shows}
use Rattle.ddf_stage_promise.proofs.laws.closing_gates_without_cells_keeps_what_is_staged.Goals as goal

pub returns-clause-keeps : goal.returns-clause-keeps
returns-clause-keeps c = λ group footing small past_floors past alone number config since only before image promises are kept one staged is_stage first refusal none_viewed desks among left.
    closed_keeps group footing small past_floors past alone number config since only before image are promises kept one staged is_stage first refusal none_viewed desks among left

pub returns-clause-shows : goal.returns-clause-shows
returns-clause-shows c = λ group footing small past_floors past alone number config since only before image promises are kept one staged is_stage first refusal none_viewed desks among left.
    closed_shows group footing small past_floors past alone number config since only before image are promises kept one staged is_stage first refusal none_viewed desks among left
