use Rattle.std.proofs.Common.{length}
use Rattle.ddf_bay.specs.Memory.{disks_of}
use Rattle.ddf_group_commands.specs.Change.{most_calls}
use Rattle.ddf_history_memory.proofs.Slots.{still_tells}
use Rattle.ddf_history_life.proofs.laws.a_command_leaves_a_bay_that_still_tells.Goals as goal

pub returns : goal.returns
returns c = λ group old exit command below early. still_tells old exit command.well (most_calls (length (disks_of old).sizes)) command.has.calls below early
