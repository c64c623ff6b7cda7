use Rattle.ddf_bay.proofs.Steps.{stops_weaken}
use Rattle.ddf_command.proofs.laws.a_call_without_a_write_leaves_all_as_it_was.Goals as goal

pub returns : goal.returns
returns g c = λ old new goes_on same below.
    stops_weaken (g.met.B.Bay.unasked old new (goes_on new (g.met.B.Bay.leads new)) same below) (λ image left s l other. left s l)
