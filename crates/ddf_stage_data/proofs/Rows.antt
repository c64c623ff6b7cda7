-- The cells of rows once a block is written from a stage.
use Rattle.std.proofs.Common.{◌≡◌, ◌≢◌, ◌∙◌, ◌⊎◌, inl, inr, ⊎_elim, ℕ, ◌+◌, ◌/◌, ◌<◌, Bool, true, false, List, [], Option, Some, None, refl, sym, ap, subst, arith, map, length, slice_get}
use Rattle.std.specs.Prelude.{◌==◌, if◌then◌else◌}
use Rattle.std.specs.List.{range_with_len}
use Rattle.std.proofs.lemmas.Bool.{eq-eqb, eqb-true, ne_eqb, cases_eq}
use Rattle.ddf_lemmas.proofs.Options.{none_some, some_is}
use Rattle.ddf_bay.specs.Sectors.{Image}
use Rattle.ddf_parity.specs.Xor.{xor_all, zeros}
use Rattle.ddf_primary.specs.Cells.{parity_member}
use Rattle.ddf_primary.proofs.ShapeFacts.{cell_facts}
use Rattle.ddf_primary.proofs.Needs.{parity_below, some_members}
use Rattle.ddf_array.specs.declared.part.Part.{Part}
use Rattle.ddf_array.specs.declared.site.Site.{Site}
use Rattle.ddf_array.specs.Apart.{IsApart}
use Rattle.ddf_array.specs.Places.{site_at, site_on}
use Rattle.ddf_array.specs.Redundant.{IsRedundant, whole_row}
use Rattle.ddf_array.specs.Rows.{block_at, cell_value}
use Rattle.ddf_array.specs.Sound.{AreSectors}
use Rattle.ddf_array.specs.Sources.{all_of, other_positions, row_without}
use Rattle.ddf_array.specs.Values.{bytes_at, sum_at}
use Rattle.ddf_array.specs.Volume.{Volume, IsVolume}
use Rattle.ddf_array.proofs.Consistent.{position_within}
use Rattle.ddf_array.proofs.RowParity.{cell_value_is}
use Rattle.ddf_cells.proofs.CopiesOn.{block_at_sits, in_copies, on_position, sits_block_at}
use Rattle.ddf_cells.proofs.DataCells.{own_cell}
use Rattle.ddf_cells.proofs.OnCells.{block_below, moved, on_cell, one_place}
use Rattle.ddf_cells.proofs.Redundance.{held}
use Rattle.ddf_write.specs.Writing.{IsTouched}
use Rattle.ddf_data_array.proofs.Totals.{from_others, total, with_sum}
use Rattle.ddf_stage_data.specs.Staged.{IsStaged, cell_with, sum_with}
use Rattle.ddf_stage_data.proofs.Long.{long_with}

module _ (v : Volume) (known : IsVolume v) (apart : IsApart v) (block : ℕ) (bytes : List ℕ) (long : length bytes ≡ 512) (before image : Image) (are : AreSectors before)
    (was : IsRedundant v before) (staged : IsStaged v block bytes before image) where
  -- the only block of the range
  only : (k : ℕ) → k < 1 → block + k ≡ block
  only k below = omega (arith, below)

  module _ (e sector : ℕ) (part : Part) (is_part : slice_get v.parts e ≡ Some part) (inside : sector < part.shape.blocks) where
    abbrev cell : ℕ → List ℕ
    cell = cell_with block bytes v before e part sector

    -- a cell of another block, or of none, stays, where it isn't parity of a touched row
    pub stays : (position : ℕ) (own : Site) → site_at part.places position sector ≡ Some own → block_at v e position sector ≢ Some block
        → (parity_member part.shape (sector / part.shape.strip) ≡ Some position → IsTouched v block 1 e sector → ⊥) → bytes_at image own ≡ bytes_at before own
    stays position own is other no_parity = ⊎_elim (λ same. same)
        (⊎_elim
        (λ given.
        let its = on_position v known (block + given.0.k) given.0.i (site_on own.slot own.lba) given.0.is_cell in
        let at_block : block + given.0.k ≡ block = only given.0.k given.0.below in
        let there = on_cell v known its.element its.position (block + given.0.k) own its.on in
        let place = one_place v apart its.element its.position there.sector e position sector there.sits.part part own there.sits.is_part is_part
        (block_below v known its.element its.position there.sector (block + given.0.k) there.sits) inside there.is_there is in
        let held_here = sits_block_at v known e position sector (block + given.0.k) (moved v known its.element its.position there.sector e position sector (block + given.0.k) place there.sits) in
        absurd (other (held_here ∙ ap Some at_block)))
        (λ of.
        let its = of.is_at in
        let sits = block_at_sits v known of.element its.touched.position of.sector (block + its.touched.k) its.touched.holds_it in
        let part_same : sits.part ≡ of.part = some_is (sym sits.is_part ∙ its.is_part) in
        let within = subst (λ (q : Part). of.sector < q.shape.blocks) part_same (block_below v known of.element its.touched.position of.sector (block + its.touched.k) sits) in
        let place = one_place v apart of.element its.position of.sector e position sector of.part part own its.is_part is_part within inside its.is_there is in
        let same_part : of.part ≡ part = some_is (sym its.is_part ∙ ap (slice_get v.parts) place.element_is ∙ is_part) in
        let its_parity : parity_member part.shape (sector / part.shape.strip) ≡ Some position =
        ap (λ (q : Part). parity_member q.shape (sector / q.shape.strip)) (sym same_part)
        ∙ ap (λ (n : ℕ). parity_member of.part.shape (n / of.part.shape.strip)) (sym place.sector_is) ∙ its.is_parity ∙ ap Some place.position_is in
        absurd (no_parity its_parity (subst (λ n. IsTouched v block 1 n sector) place.element_is (subst (λ x. IsTouched v block 1 of.element x) place.sector_is its.touched)))))
        (staged.others own.slot own.lba)

    -- what an available data cell holds
    data_by : (position : ℕ) (own : Site) → site_at part.places position sector ≡ Some own → (parity_member part.shape (sector / part.shape.strip) ≡ Some position → ⊥)
        → (o : Option ℕ) → block_at v e position sector ≡ o → bytes_at image own ≡ cell position
    data_by position own is off_parity None found =
        stays position own is (λ at. none_some (block_at v e position sector) block found at) (λ parity touched. off_parity parity)
        ∙ sym (cell_value_is v before was e part is_part position sector own is)
        ∙ ap (λ (o : Option ℕ). elim o [ None ↦ cell_value v before e part sector position | Some other ↦ if other == block then bytes else cell_value v before e part sector position ]) (sym found)
    data_by position own is off_parity (Some other) found = by_block (cases_eq other block)
      where
        with_test : (b : Bool) → (other == block) ≡ b → (if b then bytes else cell_value v before e part sector position) ≡ cell position
        with_test b test =
            ap (λ (c : Bool). if c then bytes else cell_value v before e part sector position) (sym test)
            ∙ ap (λ (o : Option ℕ). elim o [ None ↦ cell_value v before e part sector position | Some other ↦ if other == block then bytes else cell_value v before e part sector position ]) (sym found)

        by_block : (other ≡ block) ⊎ (other ≢ block) → bytes_at image own ≡ cell position
        by_block (inl same) =
            let copied = in_copies v known block e position own (own_cell v known apart e part is_part sector position own is block (found ∙ ap Some same)) in
            staged.cells copied.0 own copied.1 ∙ with_test true (eq-eqb other block same)
        by_block (inr differ) =
            stays position own is (λ at. differ (some_is (sym found ∙ at))) (λ parity touched. off_parity parity)
            ∙ sym (cell_value_is v before was e part is_part position sector own is)
            ∙ with_test false (ne_eqb other block differ)

    pub data_cell : (position : ℕ) (own : Site) → site_at part.places position sector ≡ Some own → (parity_member part.shape (sector / part.shape.strip) ≡ Some position → ⊥)
        → bytes_at image own ≡ cell position
    data_cell position own is off_parity = data_by position own is off_parity (block_at v e position sector) refl

    -- ---- a touched row

    module _ (par : ℕ) (par_is : parity_member part.shape (sector / part.shape.strip) ≡ Some par) (touched : IsTouched v block 1 e sector) where
      abbrev all : ℕ → List ℕ
      all = with_sum (sum_with block bytes v before e part sector) cell par

      count_is : length part.places ≡ part.shape.members
      count_is = (known.are_parts e part is_part).has_places

      par_within : par < part.shape.members
      par_within =
          parity_below part.shape.layout part.shape.members (sector / part.shape.strip) par
          (some_members part.shape.layout part.shape.members (known.are_parts e part is_part).shape_is.members_taken)
          par_is

      holds_by : (q : ℕ) (one : Site) → site_at part.places q sector ≡ Some one → (b : Bool) → (par == q) ≡ b → (if b then sum_with block bytes v before e part sector else cell q) ≡ bytes_at image one
      holds_by q one at true same =
          sym (staged.parity e sector part one (record { touched = touched; is_part = is_part; position = q; is_parity = par_is ∙ ap Some (eqb-true par q same); is_there = at }))
      holds_by q one at false same =
          sym (data_cell q one at (λ parity. not_same (par == q) (eq-eqb par q (some_is (sym par_is ∙ parity))) same))
        where
          not_same : (b : Bool) → b ≡ true → b ≡ false → ⊥
          not_same b x y = cc

      -- each available position holds what the row has there
      holds_all : (q : ℕ) (one : Site) → site_at part.places q sector ≡ Some one → all q ≡ bytes_at image one
      holds_all q one at = holds_by q one at (par == q) refl

      -- what the row gives of a cell
      pub row_gives : (q : ℕ) → q < part.shape.members → (sites : List Site) → row_without part.places q sector ≡ Some sites → all q ≡ sum_at image sites
      row_gives q below sites at =
          from_others cell (long_with before are block bytes long v e part sector) part.shape.members par par_within part.shape.layout (sector / part.shape.strip) par_is q below
          ∙ ap (λ (n : ℕ). xor_all (map all (other_positions n q))) (sym count_is)
          ∙ ap xor_all (held image (λ other. site_at part.places other sector) all holds_all (other_positions (length part.places) q) sites at)

      -- a whole row sums to zero
      pub whole_zero : (sites : List Site) → whole_row part sector ≡ Some sites → sum_at image sites ≡ zeros
      whole_zero sites at =
          ap xor_all (sym (held image (λ other. site_at part.places other sector) all holds_all (range_with_len 0 (length part.places)) sites at))
          ∙ ap (λ (n : ℕ). xor_all (map all (range_with_len 0 n))) count_is
          ∙ total cell (long_with before are block bytes long v e part sector) part.shape.members par par_within part.shape.layout (sector / part.shape.strip) par_is

      pub elsewhere : (q : ℕ) → q ≢ par → all q ≡ cell q
      elsewhere q other = ap (λ b. if b then sum_with block bytes v before e part sector else cell q) (ne_eqb par q (λ same. other (sym same)))

    -- ---- another row

    module _ (not : (position k : ℕ) → position < length part.places → k < 1 → block_at v e position sector ≢ Some (block + k)) where
      untouched : IsTouched v block 1 e sector → ⊥
      untouched touched =
          let sits = block_at_sits v known e touched.position sector (block + touched.k) touched.holds_it in
          let same : sits.part ≡ part = some_is (sym sits.is_part ∙ is_part) in
          let shape = known.are_parts e sits.part sits.is_part in
          let within = (cell_facts sits.part.shape shape.shape_is).member_within touched.position sector sits.inner sits.on_position in
          let places : length sits.part.places ≡ length part.places = ap (λ (q : Part). length q.places) same in
          not touched.position touched.k (omega (arith, within, shape.has_places, places)) touched.below touched.holds_it

      none_here : (position : ℕ) → position < length part.places → block_at v e position sector ≢ Some block
      none_here position below at = let zeroth : block + 0 ≡ block = omega arith in not position 0 below (omega arith) (at ∙ ap Some (sym zeroth))

      pub same_site : (position : ℕ) (own : Site) → site_at part.places position sector ≡ Some own → bytes_at image own ≡ bytes_at before own
      same_site position own is = stays position own is (none_here position (position_within part.places position sector own is)) (λ parity touched. untouched touched)

      pub same_sum : (positions : List ℕ) (sites : List Site) → all_of (map (λ position. site_at part.places position sector) positions) ≡ Some sites → sum_at image sites ≡ sum_at before sites
      same_sum positions sites at =
          ap xor_all (sym (held image (λ position. site_at part.places position sector) (own_in image) (λ position own is. own_is image position own is) positions sites at)
          ∙ held before (λ position. site_at part.places position sector) (own_in image) (λ position own is. own_is image position own is ∙ same_site position own is) positions sites at)
        where
          at_option : Image → Option Site → List ℕ
          at_option which None = []
          at_option which (Some one) = bytes_at which one

          own_in : Image → ℕ → List ℕ
          own_in which position = at_option which (site_at part.places position sector)

          own_is : (which : Image) (position : ℕ) (own : Site) → site_at part.places position sector ≡ Some own → own_in which position ≡ bytes_at which own
          own_is which position own is = ap (at_option which) is

      pub same_cell : (position : ℕ) → position < length part.places → cell position ≡ cell_value v before e part sector position
      same_cell position below = by (block_at v e position sector) refl
        where
          by : (o : Option ℕ) → block_at v e position sector ≡ o
              → ◌≡◌ {A = List ℕ} (elim o [ None ↦ cell_value v before e part sector position | Some other ↦ if other == block then bytes else cell_value v before e part sector position ]) (cell_value v before e part sector position)
          by None found = refl
          by (Some other) found =
              ap (λ (b : Bool). if b then bytes else cell_value v before e part sector position) (ne_eqb other block (λ same. none_here position below (found ∙ ap Some same)))
