use Rattle.std.proofs.Common.{arith}
use Rattle.ddf_primary.proofs.ShapeFacts.{cell_facts, depth_le}
use Rattle.ddf_primary.proofs.shape.Shape.sector_on.Goals as goal

pub returns-then-holds-clause-within : goal.returns-then-holds-clause-within
returns-then-holds-clause-within c =
    let facts = cell_facts _ c.self.invariant in
    let near = facts.sector_within _ _ _ (facts.named _ _ _ (rw (← c.self.view_is) at c.member_and_sector-own.ensures)) in
    rw (← c.self.view_is) (omega (arith, near, depth_le c.self.inside.layout c.self.inside.strip c.self.inside.blocks))
