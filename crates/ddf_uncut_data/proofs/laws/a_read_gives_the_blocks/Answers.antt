use Rattle.ddf_uncut_data.proofs.Held.{given_blocks, value_blocks}
use Rattle.ddf_uncut_data.proofs.laws.a_read_gives_the_blocks.Goals as goal

pub returns-clause-values : goal.returns-clause-values
returns-clause-values c = value_blocks

pub returns-clause-given : goal.returns-clause-given
returns-clause-given c = given_blocks
