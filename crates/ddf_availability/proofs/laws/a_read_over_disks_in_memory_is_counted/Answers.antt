use Rattle.ddf_availability.proofs.Unfailing.{memory_counted, memory_tells}
use Rattle.ddf_availability.proofs.laws.a_read_over_disks_in_memory_is_counted.Goals as goal

pub returns-clause-calls : goal.returns-clause-calls
returns-clause-calls c = λ old exit well told named word start count outcome read found is_found serving copied.
    memory_counted old exit well told named word start count outcome read found is_found serving copied

pub returns-clause-tells : goal.returns-clause-tells
returns-clause-tells c = λ old exit well told named word start count outcome read found is_found serving copied below early.
    memory_tells old exit well told named word start count outcome read found is_found serving copied below early
