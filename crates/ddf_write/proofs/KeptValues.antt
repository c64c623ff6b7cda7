-- What is kept of the cells beside blocks stays their value while these are written.
use Rattle.std.proofs.Common.{◌≡◌, ◌∙◌, ⊎_elim, ℕ, ◌+◌, ◌/◌, ◌<◌, false, List, Some, None, sym, ap, subst, length, slice_get}
use Rattle.ddf_lemmas.proofs.Options.{some_is}
use Rattle.ddf_bay.specs.Sectors.{Image}
use Rattle.ddf_primary.specs.Cells.{parity_member}
use Rattle.ddf_array.specs.declared.part.Part.{Part}
use Rattle.ddf_array.specs.declared.site.Site.{Site}
use Rattle.ddf_array.specs.Apart.{IsApart}
use Rattle.ddf_array.specs.Places.{site_at, site_on}
use Rattle.ddf_array.specs.Rows.{cell_value}
use Rattle.ddf_array.specs.Values.{bytes_at}
use Rattle.ddf_array.specs.Volume.{Volume, IsVolume}
use Rattle.ddf_cells.specs.Alike.{AreAlike}
use Rattle.ddf_cells.specs.Degraded.{is_degraded}
use Rattle.ddf_cells.proofs.Alike.{cell_same, depth_below}
use Rattle.ddf_cells.proofs.CopiesOn.{block_at_sits, on_position, sits_block_at}
use Rattle.ddf_cells.proofs.DataCells.{read_from_one}
use Rattle.ddf_cells.proofs.OnCells.{block_below, moved, on_cell, one_place}
use Rattle.ddf_cells.proofs.Whole.{whole_site}
use Rattle.ddf_write.specs.Beside.{HoldsNone, IsDataCell}
use Rattle.ddf_write.specs.Keeping.{AreTheirValues, Keeping, KeepsNone}
use Rattle.ddf_write.specs.Writing.{IsLeftByWrite}
use Rattle.ddf_write.proofs.WriteLeaves.{cell_stays}

pub never_some : {X : Type 0} {x : X} → None ≡ Some x → ⊥
never_some e = cc

-- ---- a data cell that holds none of the blocks

module _ (v : Volume) (known : IsVolume v) (apart : IsApart v) (start : ℕ) (sectors : List (List ℕ)) (before after : Image) (left : IsLeftByWrite v start sectors before after) (element : ℕ) (part : Part) (position sector : ℕ)
    (cell : IsDataCell v element part position sector) (none : HoldsNone v start (length sectors) element position sector) where
  below : sector < part.shape.blocks
  below = depth_below v known part sector cell.below

  -- its own sector is given nothing
  own_stays : (own : Site) → site_at part.places position sector ≡ Some own → bytes_at after own ≡ bytes_at before own
  own_stays own is = ⊎_elim (λ same. same)
      (⊎_elim
      (λ given.
      let its = on_position v known (start + given.0.k) given.0.i (site_on own.slot own.lba) given.0.is_cell in
      let on = on_cell v known its.element its.position (start + given.0.k) own its.on in
      let place = one_place v apart its.element its.position on.sector element position sector on.sits.part part own on.sits.is_part cell.is_part (block_below v known its.element its.position on.sector (start + given.0.k) on.sits) below on.is_there is in
      let held = sits_block_at v known element position sector (start + given.0.k) (moved v known its.element its.position on.sector element position sector (start + given.0.k) place on.sits) in
      absurd (none given.0.k given.0.below held))
      (λ of.
      let its = of.is_at in
      let sits = block_at_sits v known of.element its.touched.position of.sector (start + its.touched.k) its.touched.holds_it in
      let part_same : sits.part ≡ of.part = some_is (sym sits.is_part ∙ its.is_part) in
      let within = subst (λ (q : Part). of.sector < q.shape.blocks) part_same (block_below v known of.element its.touched.position of.sector (start + its.touched.k) sits) in
      let place = one_place v apart of.element its.position of.sector element position sector of.part part own its.is_part cell.is_part within below its.is_there is in
      let parts : of.part ≡ part = some_is (sym its.is_part ∙ ap (slice_get v.parts) place.element_is ∙ cell.is_part) in
      let here : parity_member part.shape (sector / part.shape.strip) ≡ Some position =
      ap (λ x. parity_member part.shape (x / part.shape.strip)) (sym place.sector_is) ∙ ap (λ (q : Part). parity_member q.shape (of.sector / q.shape.strip)) (sym parts) ∙ its.is_parity ∙ ap Some place.position_is in
      absurd (cell.is_data here)))
      (left own.slot own.lba)

  pub cell_value_stays : is_degraded v ≡ false → cell_value v after element part sector position ≡ cell_value v before element part sector position
  cell_value_stays whole =
      let own = whole_site v whole element part cell.is_part cell.keeps position sector cell.is_position in
      let read = read_from_one v known apart element part cell.is_part sector position own.0 own.1 in
      read.gives after
      ∙ ⊎_elim
      (λ held. cell_stays v known apart start sectors before after left held.0 0 read.rep (λ k below same. none k below (held.1 ∙ ap Some same)) held.2)
      (λ empty. subst (λ (one : Site). bytes_at after one ≡ bytes_at before one) (sym empty.1) (own_stays own.0 own.1))
      read.kind
      ∙ sym (read.gives before)

-- ---- all that is kept

pub values_stay : (v : Volume) → IsVolume v → IsApart v → is_degraded v ≡ false → (start : ℕ) (sectors : List (List ℕ)) (before after : Image) → IsLeftByWrite v start sectors before after → (kept : Keeping)
    → KeepsNone v start (length sectors) kept → AreTheirValues v before kept → AreTheirValues v after kept
values_stay v known apart whole start sectors before after left kept none values element part position sector bytes cell is =
    values element part position sector bytes cell is
    ∙ sym (cell_value_stays v known apart start sectors before after left element part position sector cell (none element position sector bytes is) whole)

-- nor does it depend on anything but the array's cells
pub values_alike : (v : Volume) → IsVolume v → (one other : Image) → AreAlike v one other → (kept : Keeping) → AreTheirValues v one kept → AreTheirValues v other kept
values_alike v known one other alike kept values element part position sector bytes cell is =
    values element part position sector bytes cell is ∙ cell_same v known one other alike element part cell.is_part sector position (depth_below v known part sector cell.below)
