use Rattle.ddf_availability.proofs.Accepted.{accepted}
use Rattle.ddf_availability.proofs.laws.a_read_of_an_array_that_is_served_is_not_refused.Goals as goal

pub returns : goal.returns
returns c = λ config seats word start count serving. accepted config seats word start count serving
