use Rattle.std.proofs.Common.{ℕ, ◌<◌, inr, length, refl, subst, sym, arith}
use Rattle.ddf_mirror1e.specs.Mirror.{mirror}
use Rattle.ddf_mirror1e.specs.Copies.{second}
use Rattle.ddf_primary.specs.Placement.{placement}
use Rattle.ddf_primary.specs.Cells.{cells}
use Rattle.ddf_primary.proofs.MirrorLayouts.{are_twins, mirror_holds, mirror_length, mirror_twin}
use Rattle.ddf_primary.proofs.Needs.{no_twin, not_mirror}
use Rattle.ddf_primary.proofs.ShapeFacts.{cell_facts, depth_le}
use Rattle.ddf_primary.proofs.shape.Shape.twin.Goals as goal

pub second-second-requires : goal.second-second-requires
second-second-requires c =
    let shape = placement c.self.inside.layout c.self.inside.members c.self.inside.strip c.self.inside.blocks in
    let below : c.args.block < length (cells shape) = rw (← c.self.view_is) at c.requires in
    rw (c.as_mirror.ensures, ← c.self.view_is) (subst (λ (n : ℕ). c.args.block < n) (mirror_length shape c.in-Mirror.spread c.in-Mirror.is) below)

pub returns-in-Mirror-clause-cell : goal.returns-in-Mirror-clause-cell
returns-in-Mirror-clause-cell c =
    let shape = placement c.self.inside.layout c.self.inside.members c.self.inside.strip c.self.inside.blocks in
    rw (c.second-second.ensures.member, c.second-second.ensures.sector, c.as_mirror.ensures, ← c.self.view_is) (sym (mirror_twin shape c.in-Mirror.spread c.in-Mirror.is c.args.block))

pub returns-in-Mirror-clause-holds : goal.returns-in-Mirror-clause-holds
returns-in-Mirror-clause-holds c =
    let shape = placement c.self.inside.layout c.self.inside.members c.self.inside.strip c.self.inside.blocks in
    let m = mirror c.in-Mirror.spread c.self.inside.members c.self.inside.strip c.self.inside.blocks in
    let below : c.args.block < length (cells shape) = rw (← c.self.view_is) at c.requires in
    let inside = subst (λ (n : ℕ). c.args.block < n) (mirror_length shape c.in-Mirror.spread c.in-Mirror.is) below in
    rw (c.second-second.ensures.member, c.second-second.ensures.sector, c.as_mirror.ensures, ← c.self.view_is)
    (mirror_holds shape c.in-Mirror.spread c.in-Mirror.is (second m c.args.block).0 (second m c.args.block).1 c.args.block (inside, inr (refl, refl)))

pub returns-in-Mirror-clause-member : goal.returns-in-Mirror-clause-member
returns-in-Mirror-clause-member c =
    let shape = placement c.self.inside.layout c.self.inside.members c.self.inside.strip c.self.inside.blocks in
    let m = mirror c.in-Mirror.spread c.self.inside.members c.self.inside.strip c.self.inside.blocks in
    let below : c.args.block < length (cells shape) = rw (← c.self.view_is) at c.requires in
    let inside = subst (λ (n : ℕ). c.args.block < n) (mirror_length shape c.in-Mirror.spread c.in-Mirror.is) below in
    let holds = mirror_holds shape c.in-Mirror.spread c.in-Mirror.is (second m c.args.block).0 (second m c.args.block).1 c.args.block (inside, inr (refl, refl)) in
    rw (c.second-second.ensures.member, c.as_mirror.ensures, ← c.self.view_is) ((cell_facts shape c.self.invariant).member_within _ _ _ holds)

pub returns-in-Mirror-clause-sector : goal.returns-in-Mirror-clause-sector
returns-in-Mirror-clause-sector c =
    let shape = placement c.self.inside.layout c.self.inside.members c.self.inside.strip c.self.inside.blocks in
    let m = mirror c.in-Mirror.spread c.self.inside.members c.self.inside.strip c.self.inside.blocks in
    let below : c.args.block < length (cells shape) = rw (← c.self.view_is) at c.requires in
    let inside = subst (λ (n : ℕ). c.args.block < n) (mirror_length shape c.in-Mirror.spread c.in-Mirror.is) below in
    let holds = mirror_holds shape c.in-Mirror.spread c.in-Mirror.is (second m c.args.block).0 (second m c.args.block).1 c.args.block (inside, inr (refl, refl)) in
    rw (c.second-second.ensures.sector, c.as_mirror.ensures, ← c.self.view_is)
    (omega (arith, (cell_facts shape c.self.invariant).sector_within _ _ _ holds, depth_le c.self.inside.layout c.self.inside.strip c.self.inside.blocks))

pub returns-in_default-clause-cell : goal.returns-in_default-clause-cell
returns-in_default-clause-cell c =
    let shape = placement c.self.inside.layout c.self.inside.members c.self.inside.strip c.self.inside.blocks in
    rw (← c.self.view_is) (sym (no_twin shape c.args.block (not_mirror c.self.inside.layout c.in_default.not-Mirror)))

pub returns-in-Mirror-clause-apart : goal.returns-in-Mirror-clause-apart
returns-in-Mirror-clause-apart c =
    let shape = placement c.self.inside.layout c.self.inside.members c.self.inside.strip c.self.inside.blocks in
    let m = mirror c.in-Mirror.spread c.self.inside.members c.self.inside.strip c.self.inside.blocks in
    rw (c.second-second.ensures.member, c.as_mirror.ensures, ← c.self.view_is)
    (λ own sector there.
    (are_twins shape c.self.invariant c.args.block own sector (second m c.args.block).0 (second m c.args.block).1 there (mirror_twin shape c.in-Mirror.spread c.in-Mirror.is c.args.block)).differ)
