use Rattle.ddf_stage_promise.proofs.Closed.{closed_none}
use Rattle.ddf_stage_promise.proofs.laws.closed_gates_leave_none_open.Goals as goal

pub returns : goal.returns
returns c = λ group footing small past_floors past number config known only before image staged v view desks to_close moment shut.
    closed_none group footing small past_floors past number config known only before image staged v view desks to_close moment shut
