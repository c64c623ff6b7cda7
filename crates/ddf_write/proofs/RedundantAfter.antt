-- A write keeps an array redundant.
use Rattle.std.proofs.Common.{◌≡◌, ◌∙◌, ⊎_elim, ℕ, ◌+◌, ◌<◌, true, false, List, [], Option, Some, sym, ap, arith, map, length, slice_get}
use Rattle.std.specs.Prelude.{slice_index_or}
use Rattle.std.specs.List.{range_with_len}
use Rattle.ddf_bay.specs.Sectors.{Image}
use Rattle.ddf_parity.specs.Xor.{xor_all, zeros}
use Rattle.ddf_primary.specs.Cells.{depth_of}
use Rattle.ddf_primary.proofs.ShapeFacts.{depth_le}
use Rattle.ddf_array.specs.declared.part.Part.{Part}
use Rattle.ddf_array.specs.declared.site.Site.{Site}
use Rattle.ddf_array.specs.Levels.{keeps_parity}
use Rattle.ddf_array.specs.Places.{site_at}
use Rattle.ddf_array.specs.Redundant.{IsConsistent, IsRedundant, whole_row}
use Rattle.ddf_array.specs.Sound.{AreSectors}
use Rattle.ddf_array.specs.Sources.{copies}
use Rattle.ddf_array.specs.Values.{bytes_at, sum_at}
use Rattle.ddf_array.specs.Volume.{Volume, IsVolume}
use Rattle.ddf_array.proofs.Consistent.{consistent_if}
use Rattle.ddf_cells.specs.CellSources.{HaveEqualCopies}
use Rattle.ddf_cells.specs.Degraded.{is_degraded}
use Rattle.ddf_array.specs.Apart.{IsApart}
use Rattle.ddf_write.specs.Writing.{HasWritten, IsLeftByWrite, IsTouched}
use Rattle.ddf_write.proofs.RowReads.{one_or_other}
use Rattle.ddf_write.proofs.RowsUntouched.{IsUntouched, touched_or_not, untouched_stays}
use Rattle.ddf_write.proofs.WriteLeaves.{cell_stays}
use Rattle.ddf_cells.proofs.Redundance.{at_some, held, own_bytes, redundant_by, row_is_zero, sum_is}

-- ---- the copies of each block are equal before, and so after

pub copies_stay_equal : (v : Volume) → IsVolume v → IsApart v → (start : ℕ) (sectors : List (List ℕ)) (before after : Image) → IsLeftByWrite v start sectors before after
    → ((k i : ℕ) (one : Site) → k < length sectors → slice_get (copies v (start + k)) i ≡ Some one → bytes_at after one ≡ slice_index_or sectors k []) → HaveEqualCopies v before → HaveEqualCopies v after
copies_stay_equal v known apart start sectors before after left cells equal block j k one other at_j at_k =
    ⊎_elim
    (λ its.
    cells its.0 j one its.1 (ap (λ b. slice_get (copies v b) j) (sym its.2) ∙ at_j)
    ∙ sym (cells its.0 k other its.1 (ap (λ b. slice_get (copies v b) k) (sym its.2) ∙ at_k)))
    (λ away.
    cell_stays v known apart start sectors before after left block j one away at_j ∙ equal block j k one other at_j at_k
    ∙ sym (cell_stays v known apart start sectors before after left block k other away at_k))
    (one_or_other start (length sectors) block)

-- ---- redundant before, written, and so redundant after

module _ (v : Volume) (known : IsVolume v) (apart : IsApart v) (whole : is_degraded v ≡ false) (start : ℕ) (sectors : List (List ℕ)) (before after : Image)
    (are : AreSectors after) (redundant : IsRedundant v before) (left : IsLeftByWrite v start sectors before after) (sure : Type 0) (is_sure : sure) (written : HasWritten v start sectors sure after) where
  was : IsConsistent v before
  was = consistent_if v before redundant

  equal_after : HaveEqualCopies v after
  equal_after = copies_stay_equal v known apart start sectors before after left (λ k i one below at. written.cells k i one below at) was.equal_copies

  module _ (element sector : ℕ) (part : Part) (is_part : slice_get v.parts element ≡ Some part) (keep : keeps_parity part.shape.layout ≡ true) (below : sector < depth_of part.shape)
      (sites : List Site) (all : whole_row part sector ≡ Some sites) where
    inside : sector < part.shape.blocks
    inside = omega (arith, below, depth_le part.shape.layout part.shape.strip part.shape.blocks)

    abbrev at : ℕ → Option Site
    at position = site_at part.places position sector

    -- a touched row
    zero_touched : IsTouched v start (length sectors) element sector → sum_at after sites ≡ zeros
    zero_touched touched =
        row_is_zero v known apart whole after are equal_after element sector part is_part keep sites all
        (λ parity own is there. written.parity is_sure element sector part own (record { touched = touched; is_part = is_part; position = parity; is_parity = is; is_there = there }))

    -- another one
    module _ (not : IsUntouched v start (length sectors) element part sector) where
      stays : (position : ℕ) (own : Site) → at position ≡ Some own → bytes_at after own ≡ bytes_at before own
      stays position own is = untouched_stays v known apart start sectors before after left element sector part is_part inside not position own is

      zero_other : sum_at after sites ≡ zeros
      zero_other =
          let same : map (own_bytes part.places sector after) (range_with_len 0 (length part.places)) ≡ map (bytes_at before) sites =
          held before at (own_bytes part.places sector after) (λ position own is. at_some after (at position) own is ∙ stays position own is) (range_with_len 0 (length part.places)) sites all in
          sum_is part.places sector sites all after ∙ ap xor_all same ∙ was.sum_to_zero element sector part sites is_part keep below all

    zero_after : sum_at after sites ≡ zeros
    zero_after = ⊎_elim zero_touched zero_other (touched_or_not v start (length sectors) element sector (length part.places))

  pub redundant_after : IsRedundant v after
  redundant_after = redundant_by v known apart whole after are equal_after (λ element sector part sites is_part keep below all. zero_after element sector part is_part keep below sites all)
