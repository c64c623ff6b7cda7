use Rattle.ddf_exercise_config.proofs.Spares as spares
use Rattle.ddf_exercise_config.proofs.Asked as asked
use Rattle.ddf_exercise_config.proofs.Made as made
use Rattle.ddf_exercise_config.proofs.Used as used
use Rattle.ddf_exercise_config.proofs.laws.a_rebuild_makes_the_array_whole.Goals as goal

pub returns-clause-begins : goal.returns-clause-begins
returns-clause-begins c = λ group disks guid loss sequence apart within. made.beginning group disks apart guid sequence loss within

pub returns-clause-ends : goal.returns-clause-ends
returns-clause-ends c = λ group disks guid loss sequence apart within. made.finishing group disks apart guid sequence loss within

pub returns-clause-seen : goal.returns-clause-seen
returns-clause-seen c = λ group disks guid loss sequence apart. used.begun_view group disks apart guid 1 2 sequence loss

pub returns-clause-asks : goal.returns-clause-asks
returns-clause-asks c = λ linux group disks guid loss sequence apart. asked.rebuilds group disks apart guid sequence linux loss

pub returns-clause-takes : goal.returns-clause-takes
returns-clause-takes c = λ linux group disks guid loss sequence apart. spares.begins_beside group disks apart guid sequence linux loss

pub returns-clause-rows : goal.returns-clause-rows
returns-clause-rows c = λ disks loss. asked.rows_are disks loss

pub returns-clause-no_notes : goal.returns-clause-no_notes
returns-clause-no_notes c = asked.no_notes

pub returns-clause-target : goal.returns-clause-target
returns-clause-target c = λ loss. asked.is_target loss

pub returns-clause-within : goal.returns-clause-within
returns-clause-within c = λ loss. asked.stays_within loss
