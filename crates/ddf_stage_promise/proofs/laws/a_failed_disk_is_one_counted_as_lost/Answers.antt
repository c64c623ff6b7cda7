use Rattle.std.proofs.Common.{refl}
use Rattle.ddf_stage_promise.proofs.laws.a_failed_disk_is_one_counted_as_lost.Goals as goal

pub returns : goal.returns
returns c = λ config failed sequence. refl
