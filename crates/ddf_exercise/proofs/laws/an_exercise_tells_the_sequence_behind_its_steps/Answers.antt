use Rattle.ddf_exercise.proofs.Sequences.{behind_all}
use Rattle.ddf_exercise.proofs.laws.an_exercise_tells_the_sequence_behind_its_steps.Goals as goal

pub returns : goal.returns
returns c = behind_all
