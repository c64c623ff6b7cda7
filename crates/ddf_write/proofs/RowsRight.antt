-- The data cells of a row while blocks are written.
use Rattle.std.proofs.Common.{◌≡◌, ◌≢◌, ◌∙◌, ◌⊎◌, ⊎_elim, ℕ, ◌+◌, ◌/◌, ◌<◌, false, List, [], Option, Some, None, sym, ap, subst, length, slice_get}
use Rattle.std.specs.Prelude.{slice_index_or, unwrap_or}
use Rattle.ddf_lemmas.proofs.Lists.{at_first}
use Rattle.ddf_lemmas.proofs.Options.{some_is}
use Rattle.ddf_bay.specs.Sectors.{Image}
use Rattle.ddf_parity.specs.Xor.{zeros}
use Rattle.ddf_primary.specs.Cells.{parity_member}
use Rattle.ddf_primary.proofs.Needs.{parity_keeps}
use Rattle.ddf_array.specs.declared.part.Part.{Part}
use Rattle.ddf_array.specs.declared.site.Site.{Site}
use Rattle.ddf_array.specs.Places.{site_at}
use Rattle.ddf_array.specs.Volume.{Volume, IsVolume}
use Rattle.ddf_array.specs.Sources.{copies}
use Rattle.ddf_array.specs.Values.{value}
use Rattle.ddf_array.specs.Rows.{block_at, cell_value, row_sum, sources_without_block, value_without_block}
use Rattle.ddf_write.specs.RowWrites.{IsFilled}
use Rattle.ddf_cells.specs.Degraded.{is_degraded}
use Rattle.ddf_array.specs.Apart.{IsApart}
use Rattle.ddf_write.specs.Writing.{IsParityOf}
use Rattle.ddf_cells.proofs.CopiesOn.{block_at_sits, in_copies, on_position}
use Rattle.ddf_cells.proofs.OnCells.{OnCell, block_below, no_parity, on_cell, one_place}
use Rattle.ddf_cells.proofs.DataCells as cells
use Rattle.ddf_cells.proofs.DataCells.{IsReadFrom, row_is, same_sums, value_first}
use Rattle.ddf_cells.proofs.Whole.{whole_site}

module _ (v : Volume) (known : IsVolume v) (apart : IsApart v) (element : ℕ) (part : Part) (is_part : slice_get v.parts element ≡ Some part) (sector position : ℕ) (own : Site)
    (is_own : site_at part.places position sector ≡ Some own) where
  read_from_one : IsReadFrom v element part sector position own
  read_from_one = cells.read_from_one v known apart element part is_part sector position own is_own

  own_cell : (block : ℕ) → block_at v element position sector ≡ Some block → OnCell v element position block own
  own_cell block at = cells.own_cell v known apart element part is_part sector position own is_own block at

  module _ (start : ℕ) (sectors : List (List ℕ)) (parity : ℕ) (is_parity : parity_member part.shape (sector / part.shape.strip) ≡ Some parity) (is_data : position ≢ parity) (below : sector < part.shape.blocks) where
    -- a cell of data isn't one of parity
    not_parity_own : (one : Site) → own ≡ one → IsParityOf v start (length sectors) one.slot one.lba → ⊥
    not_parity_own one same of =
        let is = of.is_at in
        let sits = block_at_sits v known of.element is.touched.position of.sector (start + is.touched.k) is.touched.holds_it in
        let part_same : sits.part ≡ of.part = some_is (sym sits.is_part ∙ is.is_part) in
        let within = subst (λ q. of.sector < q.shape.blocks) part_same (block_below v known of.element is.touched.position of.sector (start + is.touched.k) sits) in
        let here : site_at of.part.places is.position of.sector ≡ Some own = is.is_there ∙ ap Some (sym same) in
        let place = one_place v apart element position sector of.element is.position of.sector part of.part own is_part is.is_part below within is_own here in
        let parts : part ≡ of.part = some_is (sym is_part ∙ ap (slice_get v.parts) place.element_is ∙ is.is_part) in
        let both : Some parity ≡ Some is.position =
        sym is_parity ∙ ap (λ (q : Part). parity_member q.shape (sector / q.shape.strip)) parts ∙ ap (λ x. parity_member of.part.shape (x / of.part.shape.strip)) place.sector_is ∙ is.is_parity in
        is_data (place.position_is ∙ sym (some_is both))

    -- nor is the sector that it is read from
    pub not_parity : (read : IsReadFrom v element part sector position own) → IsParityOf v start (length sectors) read.rep.slot read.rep.lba → ⊥
    not_parity read of = ⊎_elim
        (λ held.
        let on = on_position v known held.0 0 read.rep held.2 in
        let is = of.is_at in
        let sits = block_at_sits v known of.element is.touched.position of.sector (start + is.touched.k) is.touched.holds_it in
        let part_same : sits.part ≡ of.part = some_is (sym sits.is_part ∙ is.is_part) in
        let within = subst (λ q. of.sector < q.shape.blocks) part_same (block_below v known of.element is.touched.position of.sector (start + is.touched.k) sits) in
        no_parity v known apart on.element on.position held.0 of.element is.position of.sector of.part read.rep (on_cell v known on.element on.position held.0 read.rep on.on) is.is_part is.is_parity within is.is_there)
        (λ none. not_parity_own read.rep (sym none.1) of)
        read.kind

    -- the value stays where only parity changes
    pub value_stays : (before after : Image) → ((s l : ℕ) → (after s l ≡ before s l) ⊎ IsParityOf v start (length sectors) s l)
        → cell_value v after element part sector position ≡ cell_value v before element part sector position
    value_stays before after only =
        let read = read_from_one in
        read.gives after ∙ ⊎_elim (λ same. same) (λ of. absurd (not_parity read of)) (only read.rep.slot read.rep.lba) ∙ sym (read.gives before)

  module _ (start : ℕ) (sectors : List (List ℕ)) (entry image : Image) (filled : IsFilled v start sectors entry image) where
    -- a block of the range has its bytes
    pub value_given : (k : ℕ) → k < length sectors → block_at v element position sector ≡ Some (start + k) → cell_value v image element part sector position ≡ slice_index_or sectors k []
    value_given k inside at =
        let copied = in_copies v known (start + k) element position own (own_cell (start + k) at) in
        let first = at_first (copies v (start + k)) copied.0 own copied.1 in
        let on = on_position v known (start + k) 0 first.0 first.1 in
        ap
        (λ (found : Option ℕ). elim found [ None ↦ value_without_block image (sources_without_block part position sector) | Some block ↦ unwrap_or (value v image block) zeros ])
        at
        ∙ ap (λ (o : Option (List ℕ)). unwrap_or o zeros) (value_first v image (start + k) first.0 first.1)
        ∙ filled.cells on.element on.position k first.0 inside on.on

-- ---- the sum of a row

module _ (v : Volume) (known : IsVolume v) (element : ℕ) (part : Part) (is_part : slice_get v.parts element ≡ Some part) (sector parity : ℕ)
    (is_parity : parity_member part.shape (sector / part.shape.strip) ≡ Some parity) where
  -- it stays where only parity changes
  pub row_stays : IsApart v → is_degraded v ≡ false → parity < length part.places → sector < part.shape.blocks → (start : ℕ) (sectors : List (List ℕ)) (before after : Image)
      → ((s l : ℕ) → (after s l ≡ before s l) ⊎ IsParityOf v start (length sectors) s l) → row_sum v after element part sector ≡ row_sum v before element part sector
  row_stays apart whole below inside start sectors before after only =
      row_is v known element part is_part sector parity is_parity after below
      ∙ same_sums v known element part is_part sector parity is_parity (cell_value v after element part sector) (cell_value v before element part sector) (length part.places)
      (λ other under off.
      let own = whole_site v whole element part is_part (parity_keeps part.shape.layout part.shape.members (sector / part.shape.strip) parity is_parity) other sector under in
      value_stays v known apart element part is_part sector other own.0 own.1 start sectors parity is_parity off inside before after only)
      ∙ sym (row_is v known element part is_part sector parity is_parity before below)
