use Rattle.ddf_exercise_config.proofs.Made as made
use Rattle.ddf_exercise_config.proofs.laws.a_loss_leaves_the_array_degraded.Goals as goal

pub returns-clause-loses : goal.returns-clause-loses
returns-clause-loses c = λ group disks guid loss sequence apart within. made.losing group disks apart guid sequence loss within

pub returns-clause-recovers : goal.returns-clause-recovers
returns-clause-recovers c = λ group disks guid loss sequence found apart within is gone. made.recovers group disks apart guid sequence loss found within is gone

pub returns-clause-stays : goal.returns-clause-stays
returns-clause-stays c = λ found none. made.nothing_lost found none
