-- What changes of parity cells leave as it is: the data cells, and the sums of rows. Runs of parity cells.
use Rattle.std.proofs.Common.{◌≡◌, ◌≢◌, ◌∙◌, ◌⊎◌, inl, inr, ⊎_elim, ℕ, ◌+◌, ◌-◌, ◌/◌, ◌<◌, ◌≤◌, false, true, List, [], Some, sym, ap, subst, arith, length, slice_get}
use Rattle.std.specs.Prelude.{option_map, slice_index_or}
use Rattle.ddf_lemmas.proofs.Options.{some_is}
use Rattle.ddf_bay.specs.Sectors.{Image, InRun, put_run}
use Rattle.ddf_bay.specs.Moments.{Mixes}
use Rattle.ddf_bay.proofs.Runs.{inside, put_mixes}
use Rattle.ddf_primary.specs.Cells.{depth_of, parity_member}
use Rattle.ddf_primary.proofs.ShapeFacts.{depth_le}
use Rattle.ddf_primary.proofs.Needs.{parity_keeps}
use Rattle.ddf_array.specs.declared.part.Part.{Part}
use Rattle.ddf_array.specs.declared.site.Site.{Site}
use Rattle.ddf_array.specs.Apart.{IsApart}
use Rattle.ddf_array.specs.Levels.{keeps_parity}
use Rattle.ddf_array.specs.Places.{site_at, site_on}
use Rattle.ddf_array.specs.Rows.{cell_value, row_sum}
use Rattle.ddf_array.specs.Sources.{copies}
use Rattle.ddf_array.specs.Values.{bytes_at}
use Rattle.ddf_array.specs.Volume.{Volume, IsVolume}
use Rattle.ddf_array.proofs.Consistent.{position_within}
use Rattle.ddf_read.specs.Along.{further}
use Rattle.ddf_read.proofs.SourcesAlong.{site_further}
use Rattle.ddf_read.proofs.Offsets.{same_row}
use Rattle.ddf_cells.specs.CellSources.{IsInOneRow}
use Rattle.ddf_cells.specs.Degraded.{is_degraded}
use Rattle.ddf_cells.specs.Parity.{IsOfRows, IsParityCell}
use Rattle.ddf_cells.specs.RowSums.{HoldsParityAlong}
use Rattle.ddf_cells.proofs.CopiesOn.{on_position}
use Rattle.ddf_cells.proofs.DataCells.{IsReadFrom, read_from_one, row_is, same_sums}
use Rattle.ddf_cells.proofs.OnCells.{no_parity, on_cell, one_place}
use Rattle.ddf_cells.proofs.Whole.{whole_site}

-- the parity of neighbouring rows of a strip is on one position
pub parity_holds : (part : Part) (sector count many parity : ℕ) → keeps_parity part.shape.layout ≡ true → IsInOneRow part sector many → count ≤ many → parity_member part.shape (sector / part.shape.strip) ≡ Some parity
    → HoldsParityAlong part parity sector count
parity_holds part sector count many parity keep row within is j below =
    ap (parity_member part.shape) (same_row sector j part.shape.strip (omega (arith, row keep, within, below))) ∙ is

module _ (v : Volume) (known : IsVolume v) (apart : IsApart v) where
  pub cell_inside : (s l : ℕ) (of : IsParityCell v s l) → of.sector < of.part.shape.blocks
  cell_inside s l of = omega (arith, of.deep, depth_le of.part.shape.layout of.part.shape.strip of.part.shape.blocks)

  -- a copy of a block is no parity cell
  pub no_copy : (block i : ℕ) (one : Site) → slice_get (copies v block) i ≡ Some one → IsParityCell v one.slot one.lba → ⊥
  no_copy block i one at of =
      let on = on_position v known block i one at in
      no_parity v known apart on.element on.position block of.element of.position of.sector of.part one (on_cell v known on.element on.position block one on.on) of.is_part of.is_parity (cell_inside one.slot one.lba of) of.is_there

  module _ (element : ℕ) (part : Part) (is_part : slice_get v.parts element ≡ Some part) (sector parity : ℕ) (is_parity : parity_member part.shape (sector / part.shape.strip) ≡ Some parity) (below : sector < part.shape.blocks) where
    -- nor is a data cell
    no_own : (position : ℕ) (own one : Site) → position ≢ parity → site_at part.places position sector ≡ Some own → own ≡ one → IsParityCell v one.slot one.lba → ⊥
    no_own position own one other is_own same of =
        let here : site_at of.part.places of.position of.sector ≡ Some own = of.is_there ∙ ap Some (sym same) in
        let place = one_place v apart element position sector of.element of.position of.sector part of.part own is_part of.is_part below (cell_inside one.slot one.lba of) is_own here in
        let parts : part ≡ of.part = some_is (sym is_part ∙ ap (slice_get v.parts) place.element_is ∙ of.is_part) in
        let both : Some parity ≡ Some of.position =
        sym is_parity ∙ ap (λ (q : Part). parity_member q.shape (sector / q.shape.strip)) parts ∙ ap (λ x. parity_member of.part.shape (x / of.part.shape.strip)) place.sector_is ∙ of.is_parity in
        other (place.position_is ∙ sym (some_is both))

    -- nor is the sector that it is read from
    no_rep : (position : ℕ) (own : Site) → position ≢ parity → site_at part.places position sector ≡ Some own → (read : IsReadFrom v element part sector position own) → IsParityCell v read.rep.slot read.rep.lba → ⊥
    no_rep position own other is_own read of =
        ⊎_elim (λ held. no_copy held.0 0 read.rep held.2 of) (λ none. no_own position own read.rep other is_own (sym none.1) of) read.kind

    module _ (whole : is_degraded v ≡ false) (inside_is : parity < length part.places) (before after : Image) (only : (s l : ℕ) → (after s l ≡ before s l) ⊎ IsParityCell v s l) where
      value_stays : (position : ℕ) → position < length part.places → position ≢ parity → cell_value v after element part sector position ≡ cell_value v before element part sector position
      value_stays position under other =
          let own = whole_site v whole element part is_part (parity_keeps part.shape.layout part.shape.members (sector / part.shape.strip) parity is_parity) position sector under in
          let read = read_from_one v known apart element part is_part sector position own.0 own.1 in
          read.gives after ∙ ⊎_elim (λ same. same) (λ of. absurd (no_rep position own.0 other own.1 read of)) (only read.rep.slot read.rep.lba) ∙ sym (read.gives before)

      -- the sum of a row stays where only parity cells change
      pub sum_stays : row_sum v after element part sector ≡ row_sum v before element part sector
      sum_stays =
          row_is v known element part is_part sector parity is_parity after inside_is
          ∙ same_sums v known element part is_part sector parity is_parity (cell_value v after element part sector) (cell_value v before element part sector) (length part.places) value_stays
          ∙ sym (row_is v known element part is_part sector parity is_parity before inside_is)

  -- ---- so many neighbouring parity cells on one position

  module _ (element : ℕ) (part : Part) (is_part : slice_get v.parts element ≡ Some part) (sector count parity : ℕ) (holds : HoldsParityAlong part parity sector count) (inside_is : sector + count ≤ depth_of part.shape)
      (first : Site) (there : site_at part.places parity sector ≡ Some first) (sums : List (List ℕ)) (long : length sums ≡ count) where
    site_of : (j : ℕ) → site_at part.places parity (sector + j) ≡ Some (site_on first.slot (first.lba + j))
    site_of j = site_further part.places parity sector j ∙ ap (option_map (further j)) there

    in_rows : (l : ℕ) (bytes : List ℕ) → InRun first.lba sums l bytes → IsOfRows part parity sector count first.slot l
    in_rows l bytes in_run =
        let same : first.lba + (l - first.lba) ≡ l = omega (arith, in_run.from) in
        record { row = l - first.lba; is_in = omega (arith, in_run.from, in_run.below, long); is_there = site_of (l - first.lba) ∙ ap (λ m. Some (site_on first.slot m)) same }

    pub of_rows : (s l : ℕ) → IsOfRows part parity sector count s l → IsParityCell v s l
    of_rows s l of = record {
      element = element;
      position = parity;
      sector = sector + of.row;
      part = part;
      is_part = is_part;
      is_parity = holds of.row of.is_in;
      deep = omega (arith, inside_is, of.is_in);
      is_there = of.is_there;
    }

    pub run_gives : (l : ℕ) (bytes : List ℕ) → InRun first.lba sums l bytes → IsParityCell v first.slot l
    run_gives l bytes in_run = of_rows first.slot l (in_rows l bytes in_run)

    pub run_only : (old new : Image) → Mixes old new first.slot first.lba sums → (s l : ℕ) → (new s l ≡ old s l) ⊎ IsOfRows part parity sector count s l
    run_only old new mixes s l =
        ⊎_elim inl (λ here. inr (subst (λ n. IsOfRows part parity sector count n l) (sym here.0) (in_rows l (new s l) here.1))) (mixes s l)

    module _ (whole : is_degraded v ≡ false) (on : parity < length part.places) (old new : Image) (written : new ≡ put_run old first.slot first.lba sums)
        (are : (j : ℕ) → j < count → slice_index_or sums j [] ≡ row_sum v old element part (sector + j)) where
      mixes : Mixes old new first.slot first.lba sums
      mixes = subst (λ (f : Image). Mixes old f first.slot first.lba sums) (sym written) (put_mixes old first.slot first.lba sums)

      only : (s l : ℕ) → (new s l ≡ old s l) ⊎ IsParityCell v s l
      only s l = ⊎_elim inl (λ here. inr (of_rows s l here)) (run_only old new mixes s l)

      -- they are the sums of their rows
      pub run_set : (j : ℕ) (other : Site) → j < count → site_at part.places parity (sector + j) ≡ Some other → bytes_at new other ≡ row_sum v new element part (sector + j)
      run_set j other is_in at =
          let same : site_on first.slot (first.lba + j) ≡ other = some_is (sym (site_of j) ∙ at) in
          let below : sector + j < part.shape.blocks = omega (arith, inside_is, is_in, depth_le part.shape.layout part.shape.strip part.shape.blocks) in
          let stays = sum_stays element part is_part (sector + j) parity (holds j is_in) below whole on old new only in
          let number : first.lba + j - first.lba ≡ j = omega arith in
          let value : new first.slot (first.lba + j) ≡ slice_index_or sums j [] =
          ap (λ (f : Image). f first.slot (first.lba + j)) written ∙ inside old first.slot first.lba sums (first.lba + j) (omega arith) (omega (arith, is_in, long)) ∙ ap (λ m. slice_index_or sums m []) number in
          ap (bytes_at new) (sym same) ∙ value ∙ are j is_in ∙ sym stays

      -- and a cell of another row that was is still
      pub run_keeps : (e x position : ℕ) (q : Part) (own : Site) → slice_get v.parts e ≡ Some q → x < depth_of q.shape → parity_member q.shape (x / q.shape.strip) ≡ Some position → site_at q.places position x ≡ Some own
          → bytes_at old own ≡ row_sum v old e q x → bytes_at new own ≡ row_sum v new e q x
      run_keeps e x position q own is_q deep is_parity at was =
          let below : x < q.shape.blocks = omega (arith, deep, depth_le q.shape.layout q.shape.strip q.shape.blocks) in
          let stays = sum_stays e q is_q x position is_parity below whole (position_within q.places position x own at) old new only in
          ⊎_elim
          (λ same. same ∙ was ∙ sym stays)
          (λ of.
          let inside_own : sector + of.row < part.shape.blocks = omega (arith, inside_is, of.is_in, depth_le part.shape.layout part.shape.strip part.shape.blocks) in
          let place = one_place v apart element parity (sector + of.row) e position x part q own is_part is_q inside_own below of.is_there at in
          let part_same : part ≡ q = some_is (sym is_part ∙ ap (slice_get v.parts) place.element_is ∙ is_q) in
          run_set of.row own of.is_in of.is_there
          ∙ ap (λ n. row_sum v new n part (sector + of.row)) place.element_is ∙ ap (λ (r : Part). row_sum v new e r (sector + of.row)) part_same ∙ ap (row_sum v new e q) place.sector_is)
          (run_only old new mixes own.slot own.lba)
