use Rattle.ddf_primary.proofs.ShapeFacts.{cell_facts}
use Rattle.ddf_primary.proofs.laws.no_block_lies_in_a_parity_cell.Goals as goal

pub returns : goal.returns
returns c = λ shape member sector block sound holds on. (cell_facts shape sound).no_parity member sector block holds on
