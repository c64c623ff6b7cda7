use Rattle.ddf_primary.proofs.ShapeFacts.{cell_facts}
use Rattle.ddf_primary.proofs.laws.each_cell_holds_a_block_or_parity.Goals as goal

pub returns : goal.returns
returns c = λ shape member sector sound known near even. (cell_facts shape sound).covered member sector known near even
