use Rattle.ddf_exercise.proofs.Counted.{no_round as none, one_round as one}
use Rattle.ddf_exercise.proofs.laws.two_exercises_tell_these_lines.Goals as goal

pub returns-clause-no_round : goal.returns-clause-no_round
returns-clause-no_round c = none

pub returns-clause-one_round : goal.returns-clause-one_round
returns-clause-one_round c = one
