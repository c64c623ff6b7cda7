use Rattle.ddf_rewrite.proofs.Writable.{changed_copy_can}
use Rattle.ddf_rewrite.proofs.laws.a_changed_copy_can_be_written.Goals as goal

pub returns : goal.returns
returns c = λ old leaders config timestamp is change can. changed_copy_can old leaders config timestamp is change can
