use Rattle.ddf_data_group.proofs.Created.{created_writable}
use Rattle.ddf_data_group.proofs.laws.a_created_array_is_writable.Goals as goal

pub returns : goal.returns
returns c = created_writable
