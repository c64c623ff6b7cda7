use Rattle.std.specs.Prelude.{ℕ}
use Rattle.ddf_primary.specs.declared.layout.Layout.{Layout}

-- what contracts see of a `Shape`: one element's layout, how many members it has, the sectors of
-- a strip, and the blocks that each member has for it
pub record Placement : Type 0 where
  pub layout : Layout
  pub members : ℕ
  pub strip : ℕ
  pub blocks : ℕ

abbrev pub placement : Layout → ℕ → ℕ → ℕ → Placement
placement layout members strip blocks =
    record { layout = layout; members = members; strip = strip; blocks = blocks }
