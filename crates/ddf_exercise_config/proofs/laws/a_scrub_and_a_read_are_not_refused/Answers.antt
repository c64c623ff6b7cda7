use Rattle.ddf_exercise_config.proofs.Asked as asked
use Rattle.ddf_exercise_config.proofs.laws.a_scrub_and_a_read_are_not_refused.Goals as goal

pub returns-clause-scrub : goal.returns-clause-scrub
returns-clause-scrub c = λ group disks guid turn sequence apart. asked.scrubs group disks apart guid sequence turn

pub returns-clause-read : goal.returns-clause-read
returns-clause-read c = λ group disks guid turn sequence start count apart within. asked.reads group disks apart guid sequence turn start count within
