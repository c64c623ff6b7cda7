use Rattle.ddf_availability.proofs.Unfailing.{memory_gives}
use Rattle.ddf_availability.proofs.laws.a_read_over_disks_in_memory_gives_its_blocks.Goals as goal

pub returns : goal.returns
returns c = λ old exit well told named word start count outcome read found is_found serving.
    memory_gives old exit well told named word start count outcome read found is_found serving
