use Rattle.ddf_rewrite.proofs.Fully.{changed_together}
use Rattle.ddf_rewrite.proofs.laws.changed_copies_give_the_configuration.Goals as goal

pub returns : goal.returns
returns c = λ old leaders config timestamp can others all. changed_together old leaders config timestamp can others all
