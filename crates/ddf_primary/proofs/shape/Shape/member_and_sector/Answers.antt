use Rattle.std.proofs.Common.{ℕ, ◌<◌, ⊎_elim, length, subst, arith}
use Rattle.ddf_primary.proofs.RowLayouts.{raid_0_place, parity_place}
use Rattle.ddf_primary.proofs.WholeLayouts.{raid_1_place, jbod_place, concatenated_place, concatenated_within}
use Rattle.ddf_primary.proofs.ShapeFacts.{raid_1_members, parity_members, jbod_members}
use Rattle.ddf_primary.specs.Placement.{placement}
use Rattle.ddf_primary.specs.Cells.{cells}
use Rattle.ddf_primary.proofs.MirrorLayouts.{mirror_length, mirror_place}
use Rattle.ddf_primary.proofs.shape.Shape.member_and_sector.Goals as goal

pub overflow_cast-result : goal.overflow_cast-result
overflow_cast-result c =
    omega (arith, concatenated_within _ c.in-Concatenation.is c.args.block (rw (← c.self.view_is) at c.requires), c.self.invariant.members_fit)

pub returns-in-Raid0 : goal.returns-in-Raid0
returns-in-Raid0 c =
    rw (c.strip_of_block-strip.ensures.number, c.strip_of_block-strip.ensures.sector, ← c.self.view_is)
    (raid_0_place _ c.in-Raid0.is c.args.block (rw (← c.self.view_is) at c.requires))

pub returns-in-Parity : goal.returns-in-Parity
returns-in-Parity c =
    let strip = c.strip_of_block-strip-in-Parity in
    let two = parity_members _ _ c.in-Parity.is c.self.invariant in
    rw (strip.ensures.sector, ← c.self.view_is)
    (parity_place _ _ c.in-Parity.is two c.args.block c.data_member-member.result (rw (← c.self.view_is) at c.requires)
    (rw (c.parity_of-on.ensures.value, strip.ensures.row, strip.ensures.number) at c.data_member-member.ensures))

pub returns-in-Raid1 : goal.returns-in-Raid1
returns-in-Raid1 c =
    let below = rw (← c.self.view_is) at c.requires in
    rw (← c.self.view_is)
    (⊎_elim (λ is. raid_1_place _ is (raid_1_members _ is c.self.invariant) c.args.block below)
    (λ is. jbod_place _ is (jbod_members _ is c.self.invariant) c.args.block below)
    c.in-Raid1.is)

pub returns-in-Concatenation : goal.returns-in-Concatenation
returns-in-Concatenation c =
    rw (← c.self.view_is)
    (concatenated_place _ c.in-Concatenation.is c.args.block (rw (← c.self.view_is) at c.requires))

pub first-first-requires : goal.first-first-requires
first-first-requires c =
    let shape = placement c.self.inside.layout c.self.inside.members c.self.inside.strip c.self.inside.blocks in
    let below : c.args.block < length (cells shape) = rw (← c.self.view_is) at c.requires in
    rw (c.as_mirror.ensures, ← c.self.view_is) (subst (λ (n : ℕ). c.args.block < n) (mirror_length shape c.in-Mirror.spread c.in-Mirror.is) below)

pub returns-in-Mirror : goal.returns-in-Mirror
returns-in-Mirror c =
    let shape = placement c.self.inside.layout c.self.inside.members c.self.inside.strip c.self.inside.blocks in
    let below : c.args.block < length (cells shape) = rw (← c.self.view_is) at c.requires in
    rw (c.first-first.ensures.member, c.first-first.ensures.sector, c.as_mirror.ensures, ← c.self.view_is) (mirror_place shape c.in-Mirror.spread c.in-Mirror.is c.args.block below)
