use Rattle.ddf_rewrite.proofs.Under.{recovered_under}
use Rattle.ddf_rewrite.proofs.laws.a_recovered_copy_can_be_written.Goals as goal

pub returns : goal.returns
returns c = λ size anchor old leaders config timestamp under group can. recovered_under size anchor old leaders config timestamp under group can
