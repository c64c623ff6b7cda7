use Rattle.ddf_rewrite.proofs.Under.{changed_under}
use Rattle.ddf_rewrite.proofs.laws.a_changed_copy_can_be_written_in_both_places.Goals as goal

pub returns : goal.returns
returns c = λ size anchor old leaders config timestamp under group change can. changed_under size anchor old leaders config timestamp under group change can
