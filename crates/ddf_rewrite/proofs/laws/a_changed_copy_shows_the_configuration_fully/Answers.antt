use Rattle.ddf_rewrite.proofs.Fully.{changed_fully}
use Rattle.ddf_rewrite.proofs.laws.a_changed_copy_shows_the_configuration_fully.Goals as goal

pub returns : goal.returns
returns c = λ old leaders config timestamp capacity can. changed_fully old leaders config timestamp capacity can
