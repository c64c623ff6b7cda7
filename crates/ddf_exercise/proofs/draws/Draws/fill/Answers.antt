use Rattle.ddf_exercise.specs.Draws.{behind_fill, next_fill}
use Rattle.ddf_exercise.proofs.draws.Draws.fill.Goals as goal

pub returns-clause-fill : goal.returns-clause-fill
unfolding next_fill
returns-clause-fill c = cc

pub returns-clause-state : goal.returns-clause-state
unfolding behind_fill
returns-clause-state c = cc
