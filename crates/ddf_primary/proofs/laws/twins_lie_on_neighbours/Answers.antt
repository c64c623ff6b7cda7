use Rattle.ddf_primary.proofs.MirrorLayouts.{are_twins}
use Rattle.ddf_primary.proofs.laws.twins_lie_on_neighbours.Goals as goal

pub returns-clause-follows : goal.returns-clause-follows
returns-clause-follows c = λ shape block member sector other place sound there twin. (are_twins shape sound block member sector other place there twin).follows

pub returns-clause-differ : goal.returns-clause-differ
returns-clause-differ c = λ shape block member sector other place sound there twin. (are_twins shape sound block member sector other place there twin).differ

pub returns-clause-row : goal.returns-clause-row
returns-clause-row c = λ shape block member sector other place sound there twin. (are_twins shape sound block member sector other place there twin).row
