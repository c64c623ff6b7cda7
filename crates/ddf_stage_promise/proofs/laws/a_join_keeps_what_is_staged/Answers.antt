use Rattle.ddf_stage_promise.proofs.Joining.{join_keeps}
use Rattle.ddf_stage_promise.proofs.laws.a_join_keeps_what_is_staged.Goals as goal

pub returns : goal.returns
returns c = λ group footing small past image promises are kept none number last next since known all_stay shut.
    join_keeps group footing small past image are promises kept none number last next since known all_stay shut
