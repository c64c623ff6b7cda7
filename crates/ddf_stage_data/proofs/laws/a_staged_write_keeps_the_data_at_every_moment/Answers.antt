use Rattle.ddf_stage_data.proofs.Moments.{every_moment, kept_early}
use Rattle.ddf_stage_data.proofs.laws.a_staged_write_keeps_the_data_at_every_moment.Goals as goal

pub returns-clause-before : goal.returns-clause-before
returns-clause-before c = λ is_absent lost desks here arrays staged fewer before image allowed known none_rows kept is_stage off its are early.
    kept_early is_absent lost known none_rows arrays desks here staged is_stage fewer off before image are its early allowed kept

pub returns-clause-since : goal.returns-clause-since
returns-clause-since c = λ is_absent lost_absent volume lost desks here arrays staged cells fewer before image allowed.
    every_moment is_absent lost_absent volume lost desks here arrays staged cells fewer before image allowed
