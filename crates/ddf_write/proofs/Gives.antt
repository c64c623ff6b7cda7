-- What a write gives a cell of a block is the block.
use Rattle.std.proofs.Common.{◌≡◌, inl, inr, ℕ, ◌+◌, ◌<◌, Bool, List, Some, sym, subst, ◌∙◌}
use Rattle.ddf_array.specs.Apart.{IsApart}
use Rattle.ddf_array.specs.Volume.{Volume, IsVolume}
use Rattle.ddf_cells.proofs.CopiesOn.{block_at_sits}
use Rattle.ddf_cells.proofs.OnCells.{block_below, no_parity}
use Rattle.ddf_bay.specs.State.{BayState}
use Rattle.ddf_cells.specs.CellsOn.{GivesCells}
use Rattle.ddf_cells.specs.Touching.{Writes}
use Rattle.ddf_cells.proofs.WriteSteps.{KeepsCells, given_cell, writes_then, writes_wider}
use Rattle.ddf_write.specs.Writing.{MayGive}

module _ (v : Volume) (known : IsVolume v) (apart : IsApart v) (start : ℕ) (sectors : List (List ℕ)) where
  pub may_cell : KeepsCells v start sectors (MayGive v start sectors)
  may_cell e p k one bytes cell (inl given) = given_cell v known start sectors apart e p k one bytes cell given
  may_cell e p k one bytes cell (inr parity) =
      let is = parity.is_at in
      let sits = block_at_sits v known parity.element is.touched.position parity.sector (start + is.touched.k) is.touched.holds_it in
      let below = block_below v known parity.element is.touched.position parity.sector (start + is.touched.k) sits in
      let part_same : sits.part ≡ parity.part = some_is (sym sits.is_part ∙ is.is_part) in
      let within = subst (λ q. parity.sector < q.shape.blocks) part_same below in
      absurd (no_parity v known apart e p (start + k) parity.element is.position parity.sector parity.part one cell is.is_part is.is_parity within is.is_there)
    where
      some_is : {X : Type 0} {a b : X} → Some a ≡ Some b → a ≡ b
      some_is e = cc

-- a write of cells is one of a write
pub cells_written : (v : Volume) (start : ℕ) (sectors : List (List ℕ)) (tells : Type 0) {D : Type 0} {a b : BayState D} {t u : List Bool} → Writes (GivesCells v start sectors) tells a b t u → Writes (MayGive v start sectors) tells a b t u
cells_written v start sectors tells writes = writes_wider (GivesCells v start sectors) (MayGive v start sectors) tells (λ s l bytes given. inl given) writes

-- cells, and then parity
pub both_written : (v : Volume) (start : ℕ) (sectors : List (List ℕ)) (tells : Type 0) {D : Type 0} {a b c : BayState D} {t u w : List Bool} → Writes (GivesCells v start sectors) tells a b t u → Writes (MayGive v start sectors) tells b c u w
    → Writes (MayGive v start sectors) tells a c t w
both_written v start sectors tells first next = writes_then (MayGive v start sectors) tells (cells_written v start sectors tells first) next
