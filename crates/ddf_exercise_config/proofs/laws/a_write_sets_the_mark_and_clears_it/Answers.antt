use Rattle.ddf_exercise_config.proofs.Asked as asked
use Rattle.ddf_exercise_config.proofs.Made as made
use Rattle.ddf_exercise_config.proofs.Used as used
use Rattle.ddf_exercise_config.proofs.laws.a_write_sets_the_mark_and_clears_it.Goals as goal

pub returns-clause-marks : goal.returns-clause-marks
returns-clause-marks c = λ group disks guid turn sequence apart within. made.marking group disks apart guid sequence turn within

pub returns-clause-clears : goal.returns-clause-clears
returns-clause-clears c = λ group disks guid turn sequence apart within. made.clearing group disks apart guid sequence turn within

pub returns-clause-seen : goal.returns-clause-seen
returns-clause-seen c = λ group disks guid turn sequence apart. used.turn_view group disks apart guid 16 2 sequence turn

pub returns-clause-asks : goal.returns-clause-asks
returns-clause-asks c = λ group disks guid turn sequence start count apart within. asked.writes group disks apart guid sequence turn start count within
