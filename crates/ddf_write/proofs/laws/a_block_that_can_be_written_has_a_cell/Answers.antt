use Rattle.ddf_cells.proofs.Whole.{has_copy}
use Rattle.ddf_write.proofs.laws.a_block_that_can_be_written_has_a_cell.Goals as goal

pub returns : goal.returns
returns c = λ volume block known whole within below. has_copy volume known whole block within below
