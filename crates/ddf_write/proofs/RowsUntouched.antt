-- The rows that a write doesn't touch stay.
use Rattle.std.proofs.Common.{◌≡◌, ◌≢◌, ◌∙◌, ◌⊎◌, inl, inr, ⊎_elim, ℕ, zero, suc, ◌+◌, ◌/◌, ◌<◌, ◌≤◌, false, List, Option, Some, None, refl, sym, ap, subst, arith, length, slice_get}
use Rattle.std.proofs.lemmas.Bool.{cases_lt}
use Rattle.ddf_lemmas.proofs.Options.{some_is}
use Rattle.ddf_bay.specs.Sectors.{Image}
use Rattle.ddf_primary.specs.Cells.{parity_member}
use Rattle.ddf_primary.proofs.ShapeFacts.{cell_facts}
use Rattle.ddf_primary.proofs.Needs.{parity_keeps}
use Rattle.ddf_array.specs.declared.part.Part.{Part}
use Rattle.ddf_array.specs.declared.site.Site.{Site}
use Rattle.ddf_array.specs.Apart.{IsApart}
use Rattle.ddf_array.specs.Places.{site_at, site_on}
use Rattle.ddf_array.specs.Rows.{block_at, cell_value, row_sum}
use Rattle.ddf_array.specs.Values.{bytes_at}
use Rattle.ddf_array.specs.Volume.{Volume, IsVolume}
use Rattle.ddf_array.proofs.Consistent.{position_within}
use Rattle.ddf_cells.specs.Degraded.{is_degraded}
use Rattle.ddf_cells.proofs.CopiesOn.{block_at_sits, on_position, sits_block_at}
use Rattle.ddf_cells.proofs.DataCells.{read_from_one, row_is, same_sums}
use Rattle.ddf_cells.proofs.OnCells.{block_below, moved, on_cell, one_place}
use Rattle.ddf_cells.proofs.Whole.{whole_site}
use Rattle.ddf_write.specs.Writing.{IsLeftByWrite, IsTouched}
use Rattle.ddf_write.proofs.RowReads.{one_or_other}
use Rattle.ddf_write.proofs.WriteLeaves.{cell_stays}

-- ---- a row is touched, or not

pub touched_or_not : (v : Volume) (start count element sector n : ℕ) → IsTouched v start count element sector ⊎ ((position k : ℕ) → position < n → k < count → block_at v element position sector ≢ Some (start + k))
touched_or_not v start count element sector zero = inr (λ position k none below. absurd (omega (arith, none)))
touched_or_not v start count element sector (suc n) = ⊎_elim inl (λ before. by before (block_at v element n sector) refl) (touched_or_not v start count element sector n)
  where
    Not : ℕ → Type 0
    Not m = (position k : ℕ) → position < m → k < count → block_at v element position sector ≢ Some (start + k)

    more : Not n → ((k : ℕ) → k < count → block_at v element n sector ≢ Some (start + k)) → Not (suc n)
    more before here position k inside below =
        ⊎_elim
        (λ (earlier : position < n). before position k earlier below)
        (λ (last : n ≤ position).
        let same : n ≡ position = omega (arith, last, inside) in
        subst (λ p. block_at v element p sector ≢ Some (start + k)) same (here k below))
        (cases_lt position n)

    by : Not n → (found : Option ℕ) → block_at v element n sector ≡ found → IsTouched v start count element sector ⊎ Not (suc n)
    by before None at = inr (more before (λ k below same. never (sym at ∙ same)))
      where
        never : {x : ℕ} → None ≡ Some x → ⊥
        never e = cc
    by before (Some block) at = ⊎_elim
        (λ one. inl (record { position = n; k = one.0; below = one.1; holds_it = at ∙ ap Some one.2 }))
        (λ other. inr (more before (λ k below same. other k below (some_is (sym at ∙ same)))))
        (one_or_other start count block)

-- no position of a row holds one of these blocks
abbrev pub IsUntouched : Volume → (start count element : ℕ) → Part → (sector : ℕ) → Type 0
IsUntouched v start count element part sector = (position k : ℕ) → position < length part.places → k < count → block_at v element position sector ≢ Some (start + k)

module _ (v : Volume) (known : IsVolume v) (start count element sector : ℕ) (part : Part) (is_part : slice_get v.parts element ≡ Some part) (not : IsUntouched v start count element part sector) where
  -- nor is it touched
  pub never_touched : IsTouched v start count element sector → ⊥
  never_touched touched =
      let sits = block_at_sits v known element touched.position sector (start + touched.k) touched.holds_it in
      let same : sits.part ≡ part = some_is (sym sits.is_part ∙ is_part) in
      let shape = known.are_parts element sits.part sits.is_part in
      let within = (cell_facts sits.part.shape shape.shape_is).member_within touched.position sector sits.inner sits.on_position in
      let places : length sits.part.places ≡ length part.places = ap (λ (q : Part). length q.places) same in
      not touched.position touched.k (omega (arith, within, shape.has_places, places)) touched.below touched.holds_it

module _ (v : Volume) (known : IsVolume v) (apart : IsApart v) (start : ℕ) (sectors : List (List ℕ)) (before after : Image) (left : IsLeftByWrite v start sectors before after)
    (element sector : ℕ) (part : Part) (is_part : slice_get v.parts element ≡ Some part) (inside : sector < part.shape.blocks) (not : IsUntouched v start (length sectors) element part sector) where
  never : IsTouched v start (length sectors) element sector → ⊥
  never touched = never_touched v known start (length sectors) element sector part is_part not touched

  -- Its cells are as before,
  pub untouched_stays : (position : ℕ) (own : Site) → site_at part.places position sector ≡ Some own → bytes_at after own ≡ bytes_at before own
  untouched_stays position own is = ⊎_elim (λ same. same)
      (⊎_elim
      (λ given.
      let its = on_position v known (start + given.0.k) given.0.i (site_on own.slot own.lba) given.0.is_cell in
      let cell = on_cell v known its.element its.position (start + given.0.k) own its.on in
      let place = one_place v apart its.element its.position cell.sector element position sector cell.sits.part part own cell.sits.is_part is_part (block_below v known its.element its.position cell.sector (start + given.0.k) cell.sits) inside cell.is_there is in
      let held = sits_block_at v known element position sector (start + given.0.k) (moved v known its.element its.position cell.sector element position sector (start + given.0.k) place cell.sits) in
      absurd (not position given.0.k (position_within part.places position sector own is) given.0.below held))
      (λ of.
      let its = of.is_at in
      let sits = block_at_sits v known of.element its.touched.position of.sector (start + its.touched.k) its.touched.holds_it in
      let part_same : sits.part ≡ of.part = some_is (sym sits.is_part ∙ its.is_part) in
      let within = subst (λ (q : Part). of.sector < q.shape.blocks) part_same (block_below v known of.element its.touched.position of.sector (start + its.touched.k) sits) in
      let place = one_place v apart of.element its.position of.sector element position sector of.part part own its.is_part is_part within inside its.is_there is in
      absurd (never (subst (λ e. IsTouched v start (length sectors) e sector) place.element_is (subst (λ x. IsTouched v start (length sectors) of.element x) place.sector_is its.touched)))))
      (left own.slot own.lba)

  -- so are the values of its data cells,
  value_untouched : (position : ℕ) (own : Site) → position < length part.places → site_at part.places position sector ≡ Some own
      → cell_value v after element part sector position ≡ cell_value v before element part sector position
  value_untouched position own under is =
      let read = read_from_one v known apart element part is_part sector position own is in
      read.gives after
      ∙ ⊎_elim
      (λ held. cell_stays v known apart start sectors before after left held.0 0 read.rep (λ k below same. not position k under below (held.1 ∙ ap Some same)) held.2)
      (λ none. subst (λ (one : Site). bytes_at after one ≡ bytes_at before one) (sym none.1) (untouched_stays position own is))
      read.kind
      ∙ sym (read.gives before)

  -- and so is its sum.
  pub sum_untouched : is_degraded v ≡ false → (parity : ℕ) → parity_member part.shape (sector / part.shape.strip) ≡ Some parity → parity < length part.places
      → row_sum v after element part sector ≡ row_sum v before element part sector
  sum_untouched whole parity is_parity below =
      row_is v known element part is_part sector parity is_parity after below
      ∙ same_sums v known element part is_part sector parity is_parity (cell_value v after element part sector) (cell_value v before element part sector) (length part.places)
      (λ other under off.
      let own = whole_site v whole element part is_part (parity_keeps part.shape.layout part.shape.members (sector / part.shape.strip) parity is_parity) other sector under in
      value_untouched other own.0 under own.1)
      ∙ sym (row_is v known element part is_part sector parity is_parity before below)
