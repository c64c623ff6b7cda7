use Rattle.std.proofs.Common.{[]}
use Rattle.ddf_exercise_config.proofs.Readable as readable
use Rattle.ddf_exercise_config.proofs.laws.each_stage_can_be_written.Goals as goal

pub returns-clause-founded : goal.returns-clause-founded
returns-clause-founded c = λ group disks sequence apart named. readable.founded_writable group disks apart named [] sequence

pub returns-clause-created : goal.returns-clause-created
returns-clause-created c = λ group disks guid sequence apart named. readable.created_writable group disks apart named guid sequence

pub returns-clause-resynced : goal.returns-clause-resynced
returns-clause-resynced c = λ group disks guid sequence apart named. readable.resynced_writable group disks apart named guid sequence

pub returns-clause-with_spare : goal.returns-clause-with_spare
returns-clause-with_spare c = λ group disks guid sequence apart named. readable.spare_writable group disks apart named guid sequence

pub returns-clause-whole : goal.returns-clause-whole
returns-clause-whole c = λ group disks guid turn sequence apart named. readable.whole_writable group disks apart named guid sequence turn

pub returns-clause-written_on : goal.returns-clause-written_on
returns-clause-written_on c = λ group disks guid turn sequence apart named. readable.written_writable group disks apart named guid sequence turn

pub returns-clause-lost : goal.returns-clause-lost
returns-clause-lost c = λ group disks guid loss sequence apart named. readable.lost_writable group disks apart named guid sequence loss

pub returns-clause-begun : goal.returns-clause-begun
returns-clause-begun c = λ group disks guid loss sequence apart named. readable.begun_writable group disks apart named guid sequence loss
