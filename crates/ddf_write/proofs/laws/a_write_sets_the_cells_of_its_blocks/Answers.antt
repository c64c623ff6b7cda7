use Rattle.ddf_write.proofs.CellsCount.{cells_are_copies}
use Rattle.ddf_write.proofs.laws.a_write_sets_the_cells_of_its_blocks.Goals as goal

pub returns : goal.returns
returns c = λ volume start count known. cells_are_copies volume known start count
