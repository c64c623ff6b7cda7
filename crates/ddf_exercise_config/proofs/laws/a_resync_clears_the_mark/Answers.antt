use Rattle.ddf_exercise_config.proofs.Asked as asked
use Rattle.std.proofs.Common.{false}
use Rattle.ddf_config.specs.declared.member.SpareUse.TheVariants.{No}
use Rattle.ddf_exercise_config.proofs.Made as made
use Rattle.ddf_exercise_config.proofs.Used as used
use Rattle.ddf_exercise_config.proofs.laws.a_resync_clears_the_mark.Goals as goal

pub returns-clause-may_mark : goal.returns-clause-may_mark
returns-clause-may_mark c = λ group disks guid sequence. made.resync_marks group disks guid sequence

pub returns-clause-is_marked : goal.returns-clause-is_marked
returns-clause-is_marked c = λ group disks guid sequence apart. made.is_marked_already group disks apart guid sequence

pub returns-clause-clears : goal.returns-clause-clears
returns-clause-clears c = λ group disks guid sequence apart within. made.resync group disks apart guid sequence within

pub returns-clause-seen : goal.returns-clause-seen
returns-clause-seen c = λ group disks guid sequence apart. used.early_view group disks apart guid 16 0 sequence false false No No

pub returns-clause-asks : goal.returns-clause-asks
returns-clause-asks c = λ group disks guid sequence apart. asked.resyncs group disks apart guid sequence
