use Rattle.ddf_data_array.proofs.Given.{read_may}
use Rattle.ddf_data_array.proofs.laws.a_read_gives_what_a_block_may_have.Goals as goal

pub returns : goal.returns
returns c = read_may
