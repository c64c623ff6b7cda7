use Rattle.ddf_exercise_life.proofs.Exercised.{is_lived}
use Rattle.ddf_exercise_life.proofs.laws.an_exercise_that_was_done_is_a_life.Goals as goal

pub returns : goal.returns
returns c = λ stamp seed rounds old new is_new taken told. is_lived stamp seed rounds old new is_new told taken
