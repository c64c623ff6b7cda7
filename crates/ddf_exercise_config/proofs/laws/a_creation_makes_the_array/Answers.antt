use Rattle.ddf_exercise_config.proofs.Asked as asked
use Rattle.ddf_exercise_config.proofs.Made as made
use Rattle.ddf_exercise_config.proofs.laws.a_creation_makes_the_array.Goals as goal

pub returns-clause-makes : goal.returns-clause-makes
returns-clause-makes c = λ group disks guid sequence apart within. made.creation group disks apart guid sequence within

pub returns-clause-asks : goal.returns-clause-asks
returns-clause-asks c = λ group disks sequence stamp linux. asked.creation_is group disks sequence stamp linux
