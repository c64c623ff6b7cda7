use Rattle.ddf_stage_promise.proofs.Cells.{are_cells}
use Rattle.ddf_stage_promise.proofs.laws.a_gate_names_all_cells_of_its_block.Goals as goal

pub returns : goal.returns
returns c = λ volume staged known. are_cells volume known staged
