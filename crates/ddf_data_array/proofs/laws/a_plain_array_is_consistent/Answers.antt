use Rattle.ddf_data_array.proofs.Plain.{plain_parity, plain_redundant}
use Rattle.ddf_data_array.proofs.laws.a_plain_array_is_consistent.Goals as goal

pub returns : goal.returns
returns c = λ is_absent volume image plain. record { redundant = plain_redundant volume plain image; parity = plain_parity volume plain is_absent image }
