use Rattle.std.proofs.Common.{arith}
use Rattle.ddf_primary.proofs.ShapeFacts.{cell_facts, depth_le}
use Rattle.ddf_primary.proofs.shape.Shape.place.Goals as goal

pub returns-clause-member : goal.returns-clause-member
returns-clause-member c =
    let facts = cell_facts c.args.self.now c.height.ensures.sound in
    facts.member_within _ _ _ (facts.named _ _ _ c.member_and_sector-member.ensures)

pub returns-clause-sector : goal.returns-clause-sector
returns-clause-sector c =
    let facts = cell_facts c.args.self.now c.height.ensures.sound in
    let near = facts.sector_within _ _ _ (facts.named _ _ _ c.member_and_sector-member.ensures) in
    omega (arith, near, depth_le c.args.self.now.layout c.args.self.now.strip c.args.self.now.blocks)

pub returns-clause-holds : goal.returns-clause-holds
returns-clause-holds c = (cell_facts c.args.self.now c.height.ensures.sound).named _ _ _ c.member_and_sector-member.ensures
