use Rattle.std.proofs.Common.{sym}
use Rattle.ddf_primary.proofs.WholeLayouts.{concatenated_length}
use Rattle.ddf_primary.proofs.ShapeFacts.{capacity_is, capacity_le}
use Rattle.ddf_primary.specs.Placement.{placement}
use Rattle.ddf_primary.proofs.MirrorLayouts.{mirror_length}
use Rattle.ddf_primary.proofs.Needs.{not_mirror}
use Rattle.ddf_primary.proofs.shape.Shape.capacity.Goals as goal

pub returns-in-Concatenation-clause-value : goal.returns-in-Concatenation-clause-value
returns-in-Concatenation-clause-value c =
    rw (c.from.ensures, ← c.self.view_is) (sym (concatenated_length _ c.in-Concatenation.is))

pub returns-in-Mirror-clause-value : goal.returns-in-Mirror-clause-value
returns-in-Mirror-clause-value c =
    let shape = placement c.self.inside.layout c.self.inside.members c.self.inside.strip c.self.inside.blocks in
    rw (c.capacity.ensures.value, c.as_mirror.ensures, ← c.self.view_is) (sym (mirror_length shape c.in-Mirror.spread c.in-Mirror.is))

pub returns-in_default : goal.returns-in_default
returns-in_default c =
    rw (c.from-in_default.ensures, c.columns.ensures, c.depth.ensures.value, ← c.self.view_is)
    (record {
      value = capacity_is _ c.self.invariant c.in_default.not-Concatenation (not_mirror _ c.in_default.not-Mirror);
      bound = capacity_le _ c.self.invariant;
      sound = c.self.invariant;
    })
