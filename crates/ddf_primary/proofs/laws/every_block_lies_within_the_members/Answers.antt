use Rattle.ddf_primary.proofs.ShapeFacts.{cell_facts}
use Rattle.ddf_primary.proofs.laws.every_block_lies_within_the_members.Goals as goal

pub returns-clause-member : goal.returns-clause-member
returns-clause-member c = λ shape member sector block sound holds. (cell_facts shape sound).member_within member sector block holds

pub returns-clause-sector : goal.returns-clause-sector
returns-clause-sector c = λ shape member sector block sound holds. (cell_facts shape sound).sector_within member sector block holds
