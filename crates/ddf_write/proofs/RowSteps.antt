-- The parity of a row is written.
use Rattle.std.proofs.Common.{◌≡◌, ◌∙◌, ◌⊎◌, inl, inr, ⊎_elim, ℕ, ◌+◌, ◌-◌, ◌/◌, ◌<◌, ◌≤◌, List, [], Some, false, sym, ap, subst, arith, length, slice_get}
use Rattle.std.specs.Prelude.{option_map, slice_index_or}
use Rattle.ddf_lemmas.proofs.Options.{some_is}
use Rattle.ddf_read.specs.Along.{further}
use Rattle.ddf_read.proofs.SourcesAlong.{site_further}
use Rattle.ddf_cells.specs.Parity.{IsOfRows}
use Rattle.ddf_cells.specs.RowSums.{HoldsParityAlong}
use Rattle.ddf_write.specs.RowWrites.{AreTouched}
use Rattle.ddf_bay.specs.Sectors.{Image, InRun, put_run}
use Rattle.ddf_bay.specs.Moments.{Mixes}
use Rattle.ddf_bay.proofs.Runs.{inside, put_mixes}
use Rattle.ddf_primary.specs.Cells.{parity_member}
use Rattle.ddf_array.specs.declared.part.Part.{Part}
use Rattle.ddf_array.specs.declared.site.Site.{Site}
use Rattle.ddf_array.specs.Places.{site_at, site_on}
use Rattle.ddf_array.specs.Rows.{row_sum}
use Rattle.ddf_array.specs.Values.{bytes_at}
use Rattle.ddf_array.specs.Volume.{Volume, IsVolume}
use Rattle.ddf_cells.specs.Degraded.{is_degraded}
use Rattle.ddf_array.specs.Apart.{IsApart}
use Rattle.ddf_write.specs.Writing.{IsParityOf, IsTouched, IsWritten, MayGive}
use Rattle.ddf_write.proofs.RowsRight.{row_stays}

module _ (v : Volume) (element : ℕ) (part : Part) (is_part : slice_get v.parts element ≡ Some part) (sector parity : ℕ) (is_parity : parity_member part.shape (sector / part.shape.strip) ≡ Some parity)
    (start : ℕ) (sectors : List (List ℕ)) (touched : IsTouched v start (length sectors) element sector) where
  pub parity_of : (s l : ℕ) → site_at part.places parity sector ≡ Some (site_on s l) → IsParityOf v start (length sectors) s l
  parity_of s l there = record {
    element = element;
    sector = sector;
    part = part;
    is_at = record { touched = touched; is_part = is_part; position = parity; is_parity = is_parity; is_there = there };
  }

-- ---- so many neighbouring rows

module _ (v : Volume) (element : ℕ) (part : Part) (is_part : slice_get v.parts element ≡ Some part) (sector count parity : ℕ) (holds : HoldsParityAlong part parity sector count)
    (start : ℕ) (sectors : List (List ℕ)) (touched : AreTouched v start (length sectors) element sector count) (first : Site) (there : site_at part.places parity sector ≡ Some first)
    (sums : List (List ℕ)) (long : length sums ≡ count) where
  site_of : (j : ℕ) → site_at part.places parity (sector + j) ≡ Some (site_on first.slot (first.lba + j))
  site_of j = site_further part.places parity sector j ∙ ap (option_map (further j)) there

  in_rows : (l : ℕ) (bytes : List ℕ) → InRun first.lba sums l bytes → IsOfRows part parity sector count first.slot l
  in_rows l bytes in_run =
      let same : first.lba + (l - first.lba) ≡ l = omega (arith, in_run.from) in
      record { row = l - first.lba; is_in = omega (arith, in_run.from, in_run.below, long); is_there = site_of (l - first.lba) ∙ ap (λ m. Some (site_on first.slot m)) same }

  of_rows : (s l : ℕ) → IsOfRows part parity sector count s l → IsParityOf v start (length sectors) s l
  of_rows s l of = parity_of v element part is_part (sector + of.row) parity (holds of.row of.is_in) start sectors (touched of.row of.is_in) s l of.is_there

  pub run_gives : (l : ℕ) (bytes : List ℕ) → InRun first.lba sums l bytes → MayGive v start sectors first.slot l bytes
  run_gives l bytes in_run = inr (of_rows first.slot l (in_rows l bytes in_run))

  -- their slot is one that the write gives bytes
  pub run_written : 0 < count → IsWritten v start (length sectors) first.slot
  run_written some = (first.lba + 0, inr (of_rows first.slot (first.lba + 0) (record { row = 0; is_in = some; is_there = site_of 0 })))

  pub run_only : (old new : Image) → Mixes old new first.slot first.lba sums → (s l : ℕ) → (new s l ≡ old s l) ⊎ IsOfRows part parity sector count s l
  run_only old new mixes s l =
      ⊎_elim inl (λ here. inr (subst (λ n. IsOfRows part parity sector count n l) (sym here.0) (in_rows l (new s l) here.1))) (mixes s l)

  pub run_set : (known : IsVolume v) → IsApart v → is_degraded v ≡ false → parity < length part.places → sector + count ≤ part.shape.blocks → (old new : Image)
      → new ≡ put_run old first.slot first.lba sums → ((j : ℕ) → j < count → slice_index_or sums j [] ≡ row_sum v old element part (sector + j)) → (j : ℕ) (other : Site) → j < count
      → site_at part.places parity (sector + j) ≡ Some other → bytes_at new other ≡ row_sum v new element part (sector + j)
  run_set known apart whole inside_is below old new written are j other is_in at =
      let same : site_on first.slot (first.lba + j) ≡ other = some_is (sym (site_of j) ∙ at) in
      let mixes : Mixes old new first.slot first.lba sums = subst (λ (f : Image). Mixes old f first.slot first.lba sums) (sym written) (put_mixes old first.slot first.lba sums) in
      let stays = row_stays v known element part is_part (sector + j) parity (holds j is_in) apart whole inside_is (omega (arith, below, is_in)) start sectors old new
      (λ s l. ⊎_elim inl (λ here. inr (of_rows s l here)) (run_only old new mixes s l)) in
      let number : first.lba + j - first.lba ≡ j = omega arith in
      let value : new first.slot (first.lba + j) ≡ slice_index_or sums j [] =
      ap (λ (f : Image). f first.slot (first.lba + j)) written ∙ inside old first.slot first.lba sums (first.lba + j) (omega arith) (omega (arith, is_in, long)) ∙ ap (λ m. slice_index_or sums m []) number in
      ap (bytes_at new) (sym same) ∙ value ∙ are j is_in ∙ sym stays
