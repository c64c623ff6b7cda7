use Rattle.std.proofs.Common.{inl, inr, ⊎_elim}
use Rattle.ddf_lemmas.proofs.Options.{some_block}
use Rattle.ddf_primary.proofs.WholeLayouts.{raid_1_block, jbod_block, concatenated_block}
use Rattle.ddf_primary.proofs.ShapeFacts.{none_past, raid_0_answer, raid_1_members, jbod_members}
use Rattle.ddf_primary.proofs.shape.Shape.block_at.Goals as goal
use Rattle.ddf_primary.proofs.shape.Shape.block_at.Goals.{then-member-self-via-then-member-self, then-member-self-via-else-member-self+then-sector-depth}

pub returns-then-member-self : goal.returns-then-member-self
returns-then-member-self c =
    rw (← c.self.view_is)
    (none_past _ c.args.member c.args.sector c.self.invariant
    (elim c.then-member-self.branch [
      | then-member-self-via-then-member-self w ↦ inl w.if-member-self.true
      | then-member-self-via-else-member-self+then-sector-depth w ↦ inr (rw (w.depth.ensures.value, ← c.self.view_is) at w.if-sector-depth.true)
    ]))

pub returns-in-Raid0 : goal.returns-in-Raid0
returns-in-Raid0 c =
    rw (c.striped_block.ensures, ← c.self.view_is)
    (raid_0_answer _ c.args.member c.args.sector c.in-Raid0.is c.if-member-self.false (rw (c.depth.ensures.value, ← c.self.view_is) at c.if-sector-depth.false))

pub returns-in-Raid1 : goal.returns-in-Raid1
returns-in-Raid1 c =
    let near = rw (c.depth.ensures.value, ← c.self.view_is) at c.if-sector-depth.false in
    rw (← c.self.view_is)
    (λ block. some_block _ block
    (⊎_elim (λ is. raid_1_block _ is (raid_1_members _ is c.self.invariant) c.args.member c.args.sector block c.if-member-self.false near)
    (λ is. jbod_block _ is (jbod_members _ is c.self.invariant) c.args.member c.args.sector block c.if-member-self.false near)
    c.in-Raid1.is))

pub returns-in-Concatenation : goal.returns-in-Concatenation
returns-in-Concatenation c =
    rw (c.from.ensures, ← c.self.view_is)
    (λ block. some_block _ block (concatenated_block _ c.in-Concatenation.is c.args.member c.args.sector block c.if-member-self.false (rw (c.depth.ensures.value, ← c.self.view_is) at c.if-sector-depth.false)))
