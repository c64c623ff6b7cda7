use Rattle.ddf_data_lives.proofs.Keeping.{keeps_on}
use Rattle.ddf_data_lives.proofs.laws.a_call_keeps_a_disk_that_it_doesnt_fail.Goals as goal

pub returns : goal.returns
returns c = λ group kept disk old stands call well told spares. keeps_on group kept disk old stands call well told spares
