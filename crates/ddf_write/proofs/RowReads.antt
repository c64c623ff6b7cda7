-- The data cells of rows, once blocks are written.
use Rattle.std.proofs.Common.{◌≡◌, ◌≢◌, ◌∙◌, ◌⊎◌, inl, inr, ⊎_elim, ℕ, ◌+◌, ◌-◌, ◌/◌, ◌<◌, ◌≤◌, true, false, List, [], Some, sym, subst, arith, length, slice_get}
use Rattle.std.specs.Prelude.{slice_index_or}
use Rattle.std.proofs.lemmas.Bool.{cases_lt}
use Rattle.ddf_lemmas.proofs.Options.{some_is}
use Rattle.ddf_bay.specs.Sectors.{Image}
use Rattle.ddf_primary.specs.Cells.{depth_of, parity_member}
use Rattle.ddf_array.specs.declared.part.Part.{Part}
use Rattle.ddf_array.specs.declared.site.Site.{Site}
use Rattle.ddf_array.specs.Apart.{IsApart}
use Rattle.ddf_array.specs.Levels.{keeps_parity}
use Rattle.ddf_array.specs.Places.{site_at}
use Rattle.ddf_array.specs.Rows.{block_at, cell_value}
use Rattle.ddf_array.specs.Volume.{Volume, IsVolume}
use Rattle.ddf_cells.specs.Degraded.{is_degraded}
use Rattle.ddf_cells.proofs.CopiesOn.{block_at_sits}
use Rattle.ddf_cells.proofs.OnCells.{sector_below}
use Rattle.ddf_cells.proofs.Whole.{whole_site}
use Rattle.ddf_write.specs.Beside.{HoldsNone, IsDataCell}
use Rattle.ddf_write.specs.Keeping.{AreTheirValues, Keeping, kept_of}
use Rattle.ddf_write.specs.RowWrites.{IsFilled}
use Rattle.ddf_write.specs.WriteRefused.{IsOther}
use Rattle.ddf_write.specs.Writing.{IsTouched}
use Rattle.ddf_write.proofs.KeptValues.{cell_value_stays}
use Rattle.ddf_write.proofs.RowsRight.{value_given}

-- a block of those that are written, or another one
pub is_one : (start count block : ℕ) → start ≤ block → block - start < count → (k : ℕ) × (k < count) × (block ≡ start + k)
is_one start count block from below = (block - start, below, omega (arith, from))

pub one_or_other : (start count block : ℕ) → ((k : ℕ) × (k < count) × (block ≡ start + k)) ⊎ IsOther start count block
one_or_other start count block =
    ⊎_elim
    (λ (before : block < start). inr (λ k below same. omega (arith, before, same)))
    (λ (from : start ≤ block).
    ⊎_elim
    (λ (below : block < start + count). inl (is_one start count block from (omega (arith, from, below))))
    (λ (behind : start + count ≤ block). inr (λ k below same. omega (arith, behind, below, same)))
    (cases_lt block (start + count)))
    (cases_lt block start)

-- a position that holds no parity of a touched row has a data cell there
pub data_cell : (v : Volume) (known : IsVolume v) (element : ℕ) (part : Part) → slice_get v.parts element ≡ Some part → keeps_parity part.shape.layout ≡ true → (position : ℕ) → position < length part.places
    → (start count sector : ℕ) → IsTouched v start count element sector → parity_member part.shape (sector / part.shape.strip) ≢ Some position → IsDataCell v element part position sector
data_cell v known element part is_part keep position inside start count sector touched other =
    let sits = block_at_sits v known element touched.position sector (start + touched.k) touched.holds_it in
    record {
      is_part = is_part;
      keeps = keep;
      is_position = inside;
      below = subst (λ (q : Part). sector < depth_of q.shape) (some_is (sym sits.is_part ∙ is_part)) (sector_below v known element touched.position sector (start + touched.k) sits);
      is_data = other;
    }

-- a cell is as it is taken
module _ (v : Volume) (known : IsVolume v) (apart : IsApart v) (whole : is_degraded v ≡ false) (element : ℕ) (part : Part) (is_part : slice_get v.parts element ≡ Some part)
    (keep : keeps_parity part.shape.layout ≡ true) (position : ℕ) (inside : position < length part.places) (start : ℕ) (sectors : List (List ℕ)) (entry image : Image) (filled : IsFilled v start sectors entry image)
    (sector : ℕ) (bytes : List ℕ) where
  own_site : (one : Site) × (site_at part.places position sector ≡ Some one)
  own_site = whole_site v whole element part is_part keep position sector inside

  -- from the blocks
  pub cell_by_block : (k : ℕ) → k < length sectors → block_at v element position sector ≡ Some (start + k) → bytes ≡ slice_index_or sectors k [] → bytes ≡ cell_value v image element part sector position
  cell_by_block k below at is = is ∙ sym (value_given v known apart element part is_part sector position own_site.0 own_site.1 start sectors entry image filled k below at)

  -- from what is kept
  pub cell_by_kept : IsDataCell v element part position sector → HoldsNone v start (length sectors) element position sector → (kept : Keeping) → AreTheirValues v entry kept
      → kept_of kept element position sector ≡ Some bytes → bytes ≡ cell_value v image element part sector position
  cell_by_kept cell none kept values is =
      values element part position sector bytes cell is ∙ sym (cell_value_stays v known apart start sectors entry image filled.left element part position sector cell none whole)
