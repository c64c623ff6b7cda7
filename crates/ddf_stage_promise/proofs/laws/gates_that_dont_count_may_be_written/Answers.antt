use Rattle.ddf_stage_promise.proofs.Plain.{uncounted_keep}
use Rattle.ddf_stage_promise.proofs.laws.gates_that_dont_count_may_be_written.Goals as goal

pub returns : goal.returns
returns c = λ group footing small past before image promises are kept same none_count. uncounted_keep group footing small past before image are promises kept same none_count
