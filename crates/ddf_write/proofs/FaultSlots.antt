-- A fault of a write names a slot of the array's available places.
use Rattle.std.proofs.Common.{◌≡◌, ◌∙◌, ℕ, ◌+◌, ◌<◌, Some, sym, subst, inl, inr, slice_get}
use Rattle.ddf_bay.specs.State.{BayState}
use Rattle.ddf_array.specs.declared.part.Part.{Part}
use Rattle.ddf_array.specs.Places.{site_on}
use Rattle.ddf_array.specs.Volume.{IsVolume, Volume}
use Rattle.ddf_read.specs.Reading.{IsOn}
use Rattle.ddf_cells.proofs.Alike.{cell_site, copy_is_cell}
use Rattle.ddf_cells.proofs.CopiesOn.{block_at_sits}
use Rattle.ddf_cells.proofs.OnCells.{block_below}
use Rattle.ddf_cells.proofs.Surely.{cell_on}
use Rattle.ddf_write.specs.WriteRefused.{IsStopped}
use Rattle.ddf_write.specs.Writing.{IsTouched, IsWritten}

module _ (v : Volume) (known : IsVolume v) (start count : ℕ) where
  -- a row that is touched is one of the element
  touched_below : (element sector : ℕ) (part : Part) → slice_get v.parts element ≡ Some part → IsTouched v start count element sector → sector < part.shape.blocks
  touched_below element sector part is_part touched =
      let sits = block_at_sits v known element touched.position sector (start + touched.k) touched.holds_it in
      subst (λ (q : Part). sector < q.shape.blocks) (some_is (sym sits.is_part ∙ is_part)) (block_below v known element touched.position sector (start + touched.k) sits)
    where
      some_is : {X : Type 0} {a b : X} → Some a ≡ Some b → a ≡ b
      some_is e = cc

  pub written_on : (slot : ℕ) → IsWritten v start count slot → IsOn v slot
  written_on slot (lba, inl cell) = cell_on v slot lba (copy_is_cell v known (start + cell.k) cell.i (site_on slot lba) cell.is_cell)
  written_on slot (lba, inr parity) =
      let is = parity.is_at in
      cell_on v slot lba
      (cell_site v known parity.element parity.part is.is_part is.position parity.sector (site_on slot lba) (touched_below parity.element parity.sector parity.part is.is_part is.touched) is.is_there)

  pub stopped_on : {D : Type 0} (a b : BayState D) (slot : ℕ) → IsStopped a b v start count slot → IsOn v slot
  stopped_on a b slot failed = written_on slot failed.0
