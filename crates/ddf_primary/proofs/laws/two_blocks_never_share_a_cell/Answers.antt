use Rattle.ddf_primary.proofs.ShapeFacts.{cell_facts}
use Rattle.ddf_primary.proofs.laws.two_blocks_never_share_a_cell.Goals as goal

pub returns : goal.returns
returns c = λ shape member sector a b sound in_a in_b. (cell_facts shape sound).apart member sector a b in_a in_b
