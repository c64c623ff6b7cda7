use Rattle.std.proofs.Common.{length}
use Rattle.ddf_bay.specs.Memory.{disks_of}
use Rattle.ddf_answer.specs.Call.{input_of, work_of}
use Rattle.ddf_history_memory.proofs.Slots.{still_tells}
use Rattle.ddf_availability.specs.Serving.{most_writes, positions_of}
use Rattle.ddf_availability.proofs.WriteCounted.{write_counted}
use Rattle.ddf_availability.proofs.laws.a_write_over_disks_in_memory_is_counted.Goals as goal

pub returns : goal.returns
returns g c = λ old exit well source_old source_new named timestamp word start count outcome written found is_found plan none below early.
    still_tells old exit well (most_writes (length (disks_of old).sizes) (positions_of plan.volume) count)
    (write_counted (work_of (Unit {0}) (disks_of old) (disks_of exit)) (input_of g.S.Source.tells (g.S.Source.input source_old) (g.S.Source.input source_new)) named timestamp word start count outcome written found is_found plan none) below early
