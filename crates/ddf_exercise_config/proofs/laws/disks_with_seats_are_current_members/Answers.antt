use Rattle.ddf_config.specs.declared.member.SpareUse.TheVariants.{No, Global}
use Rattle.ddf_exercise_config.specs.Stages.{array, positions_at, positions_begun, positions_lost}
use Rattle.ddf_exercise_config.specs.Turns.{turn_behind}
use Rattle.ddf_exercise_config.specs.Turns.Turn.{Opening}
use Rattle.std.proofs.Common.{[]}
use Rattle.ddf_exercise_config.proofs.Readable as readable
use Rattle.ddf_exercise_config.proofs.laws.disks_with_seats_are_current_members.Goals as goal

pub returns-clause-founded : goal.returns-clause-founded
returns-clause-founded c = λ group disks sequence apart. readable.founded_current group disks apart [] sequence

pub returns-clause-created : goal.returns-clause-created
returns-clause-created c = λ group disks guid sequence apart. readable.early_current group disks apart guid sequence No No (array (positions_at disks Opening) 16 0)

pub returns-clause-resynced : goal.returns-clause-resynced
returns-clause-resynced c = λ group disks guid sequence apart. readable.early_current group disks apart guid sequence No No (array (positions_at disks Opening) 0 2)

pub returns-clause-with_spare : goal.returns-clause-with_spare
returns-clause-with_spare c = λ group disks guid sequence apart. readable.early_current group disks apart guid sequence Global No (array (positions_at disks Opening) 0 2)

pub returns-clause-whole : goal.returns-clause-whole
returns-clause-whole c = λ group disks guid turn sequence apart. readable.turn_current group disks apart guid sequence turn (array (positions_at disks turn) 0 2)

pub returns-clause-written_on : goal.returns-clause-written_on
returns-clause-written_on c = λ group disks guid turn sequence apart. readable.turn_current group disks apart guid sequence turn (array (positions_at disks turn) 16 2)

pub returns-clause-lost : goal.returns-clause-lost
returns-clause-lost c = λ group disks guid loss sequence apart. readable.lost_current group disks apart guid sequence loss (array (positions_lost disks loss) 1 2)

pub returns-clause-begun : goal.returns-clause-begun
returns-clause-begun c = λ group disks guid loss sequence apart. readable.turn_current group disks apart guid sequence (turn_behind loss) (array (positions_begun disks loss) 1 2)
