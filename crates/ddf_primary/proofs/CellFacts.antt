-- What the layouts have in common: the facts that each layout's list of cells has.
use Rattle.std.proofs.Common.{◌≡◌, ℕ, ◌+◌, ◌*◌, ◌/◌, true, length, ◌<◌, ◌⊎◌, Some, slice_get, subst, sym}
use Rattle.ddf_primary.specs.declared.layout.Layout.{Layout}
use Rattle.ddf_primary.specs.Placement.{Placement}
use Rattle.ddf_primary.specs.Needs.{is_on_two}
use Rattle.ddf_primary.specs.Cells.{cells, depth_of, parity_member, HoldsBy, Holds}

pub record CellFacts (shape : Placement) : Type 0 where
  -- the list's item is a cell that holds the block
  pub named : (member sector block : ℕ) → slice_get (cells shape) block ≡ Some (member, sector) → Holds shape member sector block
  pub apart : (member sector a b : ℕ) → Holds shape member sector a → Holds shape member sector b → a ≡ b
  pub member_within : (member sector block : ℕ) → Holds shape member sector block → member < shape.members
  pub sector_within : (member sector block : ℕ) → Holds shape member sector block → sector < depth_of shape
  pub no_parity : (member sector block : ℕ) → Holds shape member sector block → parity_member shape (sector / shape.strip) ≡ Some member → ⊥
  pub covered : (member sector : ℕ) → member < shape.members → sector < depth_of shape → (is_on_two shape.layout ≡ true → (sector / shape.strip * shape.members + member) * shape.strip < 2 * length (cells shape))
      → (parity_member shape (sector / shape.strip) ≡ Some member) ⊎ ((block : ℕ) × Holds shape member sector block)

-- `Holds` at a layout that is known
pub Holds-from : (shape : Placement) (layout : Layout) (member sector block : ℕ) → shape.layout ≡ layout → HoldsBy layout shape.members shape.strip shape.blocks (cells shape) member sector block → Holds shape member sector block
Holds-from shape layout member sector block is holds =
    subst (λ (l : Layout). HoldsBy l shape.members shape.strip shape.blocks (cells shape) member sector block) (sym is) holds

pub Holds-read : (shape : Placement) (layout : Layout) (member sector block : ℕ) → shape.layout ≡ layout → Holds shape member sector block → HoldsBy layout shape.members shape.strip shape.blocks (cells shape) member sector block
Holds-read shape layout member sector block is holds =
    subst (λ (l : Layout). HoldsBy l shape.members shape.strip shape.blocks (cells shape) member sector block) is holds
