use Rattle.ddf_history_memory.proofs.Members.{left_missing}
use Rattle.ddf_history_memory.proofs.laws.a_disk_that_was_left_out_is_missing.Goals as goal

pub returns : goal.returns
returns c = λ group past now old exit readable found asked timestamp steps history member well taken told are over slot there gone current.
    left_missing group past now old exit readable found asked timestamp steps history member well taken told are over slot there gone current
