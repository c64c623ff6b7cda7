use Rattle.ddf_exercise_config.proofs.Asked as asked
use Rattle.ddf_exercise_config.proofs.Made as made
use Rattle.ddf_exercise_config.proofs.laws.two_disks_become_spares.Goals as goal

pub returns-clause-first : goal.returns-clause-first
returns-clause-first c = λ group disks guid sequence apart within. made.first_spare group disks apart guid sequence within

pub returns-clause-second : goal.returns-clause-second
returns-clause-second c = λ group disks guid sequence apart within. made.second_spare group disks apart guid sequence within

pub returns-clause-asks_first : goal.returns-clause-asks_first
returns-clause-asks_first c = λ group disks guid sequence stamp linux. asked.first_spare_is group disks sequence stamp guid linux

pub returns-clause-asks_second : goal.returns-clause-asks_second
returns-clause-asks_second c = λ group disks guid sequence stamp linux. asked.second_spare_is group disks sequence stamp guid linux
