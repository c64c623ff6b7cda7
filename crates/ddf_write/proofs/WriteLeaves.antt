-- What a write leaves: of images that a stop leaves, and of single blocks.
use Rattle.std.proofs.Common.{◌≡◌, ◌≢◌, ◌∙◌, ◌⊎◌, inl, inr, ⊎_elim, ℕ, ◌+◌, ◌/◌, ◌<◌, Bool, true, false, List, [], Option, Some, None, refl, sym, ap, subst, length, slice_get}
use Rattle.std.specs.Prelude.{slice_index_or, option_map, option_and_then, if◌then◌else◌}
use Rattle.ddf_lemmas.proofs.Options.{some_is}
use Rattle.ddf_bay.specs.Sectors.{Image, Outcomes, IsLeft}
use Rattle.ddf_bay.specs.Moments.{IsSettled}
use Rattle.ddf_primary.proofs.Needs.{parity_keeps}
use Rattle.ddf_array.specs.declared.part.Part.{Part}
use Rattle.ddf_array.specs.declared.place.Place.{Place}
use Rattle.ddf_array.specs.declared.site.Site.{Site}
use Rattle.ddf_array.specs.Places.{site, site_at, site_on}
use Rattle.ddf_array.specs.Redundant.{IsRedundant}
use Rattle.ddf_array.specs.Rows.{cell_value}
use Rattle.ddf_array.specs.Sources.{copies}
use Rattle.ddf_array.specs.Values.{bytes_at}
use Rattle.ddf_array.specs.Volume.{Volume, IsVolume, volume}
use Rattle.ddf_array.proofs.Consistent.{position_within}
use Rattle.ddf_read.specs.Reading.{IsOn}
use Rattle.ddf_cells.specs.Degraded.{is_degraded}
use Rattle.ddf_array.specs.Apart.{IsApart}
use Rattle.ddf_write.specs.Writing.{HasWritten, IsAmongWrites, IsLeftByWrite, MayGive}
use Rattle.ddf_cells.proofs.CopiesOn.{block_at_sits, on_position}
use Rattle.ddf_cells.proofs.OnCells.{block_below, no_parity, on_cell, one_owner}
use Rattle.ddf_cells.proofs.DataCells.{read_from_one, row_is, same_sums}
use Rattle.ddf_cells.proofs.Whole.{whole_site}
use Rattle.ddf_write.proofs.Gives.{may_cell}

-- ---- a stop in a write comes from an image that a stop might leave before

before_of : {P Q : Type 0} → List ℕ → List ℕ → P ⊎ Q → List ℕ
before_of now base (inl was) = now
before_of now base (inr given) = base

module _ (v : Volume) (start : ℕ) (sectors : List (List ℕ)) (may : Outcomes) (base image : Image) (left : IsLeft may base) (among : IsAmongWrites v start sectors may image) where
  before : Image
  before s l = before_of (image s l) (base s l) (among s l)

  is_left : IsLeft may before
  unfolding before before_of
  is_left s l = by (among s l)
    where
      by : (case : may s l (image s l) ⊎ MayGive v start sectors s l (image s l)) → may s l (before_of (image s l) (base s l) case)
      by (inl was) = was
      by (inr given) = left s l

  is_before : IsLeftByWrite v start sectors before image
  unfolding before before_of
  is_before s l = by (among s l)
    where
      by : (case : may s l (image s l) ⊎ MayGive v start sectors s l (image s l)) → (image s l ≡ before_of (image s l) (base s l) case) ⊎ MayGive v start sectors s l (image s l)
      by (inl was) = inl refl
      by (inr given) = inr given

  pub stop_before : (before : Image) × IsLeft may before × IsLeftByWrite v start sectors before image
  stop_before = (before, is_left, is_before)

-- ---- settled slots

synced_of : (place : Place) (sector : ℕ) (one : Site) (synced : Bool) (slot : Option ℕ) → (if synced then option_map (λ s. site_on s (place.start + sector)) slot else None) ≡ Some one
    → (synced ≡ true) × (slot ≡ Some one.slot)
synced_of place sector one false slot e = absurd (cc)
synced_of place sector one true None e = absurd (cc)
synced_of place sector one true (Some s) e = let same : site_on s (place.start + sector) ≡ one = cc in (refl, ap (λ (o : Site). Some o.slot) same)

on_by : (v : Volume) (element position sector : ℕ) (part : Part) (one : Site) (found : Option Place) → slice_get v.parts element ≡ Some part → slice_get part.places position ≡ found
    → option_and_then (λ place. site place sector) found ≡ Some one → IsOn v one.slot
on_by v element position sector part one None is at e = absurd (cc)
on_by v element position sector part one (Some place) is at e =
    let on = synced_of place sector one place.synced place.slot e in
    record { element = element; position = position; part = part; place = place; is_part = is; is_place = at; is_synced = on.0; is_there = on.1 }

pub on_array : (v : Volume) (element position sector : ℕ) (part : Part) (one : Site) → slice_get v.parts element ≡ Some part → site_at part.places position sector ≡ Some one → IsOn v one.slot
on_array v element position sector part one is at = on_by v element position sector part one (slice_get part.places position) is refl at

module _ (v : Volume) (known : IsVolume v) (apart : IsApart v) (whole : is_degraded v ≡ false) (may : Outcomes) (held image : Image)
    (settled : (slot : ℕ) → IsOn v slot → IsSettled may held slot) (left : IsLeft may image) where
  same_on : (element position sector : ℕ) (part : Part) (one : Site) → slice_get v.parts element ≡ Some part → site_at part.places position sector ≡ Some one → bytes_at image one ≡ bytes_at held one
  same_on element position sector part one is at = settled one.slot (on_array v element position sector part one is at) one.lba (image one.slot one.lba) (left one.slot one.lba)

  same_copy : (block i : ℕ) (one : Site) → slice_get (copies v block) i ≡ Some one → bytes_at image one ≡ bytes_at held one
  same_copy block i one at =
      let on = on_position v known block i one at in
      let cell = on_cell v known on.element on.position block one on.on in
      same_on on.element on.position cell.sector cell.sits.part one cell.sits.is_part cell.is_there

  same_value : (element position sector : ℕ) (part : Part) (own : Site) → slice_get v.parts element ≡ Some part → site_at part.places position sector ≡ Some own
      → cell_value v image element part sector position ≡ cell_value v held element part sector position
  same_value element position sector part own is at =
      let read = read_from_one v known apart element part is sector position own at in
      read.gives image
      ∙ ⊎_elim (λ block. same_copy block.0 0 read.rep block.2) (λ none. subst (λ (o : Site). bytes_at image o ≡ bytes_at held o) (sym none.1) (same_on element position sector part own is at)) read.kind
      ∙ sym (read.gives held)

  pub settled_write : (start : ℕ) (sectors : List (List ℕ)) (sure : Type 0) → HasWritten v start sectors sure held → HasWritten v start sectors sure image
  settled_write start sectors sure written = record {
    cells = λ k i one below at. same_copy (start + k) i one at ∙ written.cells k i one below at;
    parity = λ is_sure element sector part one is.
        let below = position_within part.places is.position sector one is.is_there in
        let keep = parity_keeps part.shape.layout part.shape.members (sector / part.shape.strip) is.position is.is_parity in
        same_on element is.position sector part one is.is_part is.is_there
        ∙ written.parity is_sure element sector part one is
        ∙ row_is v known element part is.is_part sector is.position is.is_parity held below
        ∙ same_sums v known element part is.is_part sector is.position is.is_parity (cell_value v held element part sector) (cell_value v image element part sector) (length part.places)
        (λ other under off. let own = whole_site v whole element part is.is_part keep other sector under in sym (same_value element other sector part own.0 is.is_part own.1))
        ∙ sym (row_is v known element part is.is_part sector is.position is.is_parity image below);
  }

-- ---- single blocks

module _ (v : Volume) (known : IsVolume v) (apart : IsApart v) (start : ℕ) (sectors : List (List ℕ)) (before after : Image) (left : IsLeftByWrite v start sectors before after) where
  -- each cell of one of the blocks is as before, or new
  pub cell_old_or_new : (k i : ℕ) (one : Site) → slice_get (copies v (start + k)) i ≡ Some one → (bytes_at after one ≡ bytes_at before one) ⊎ (bytes_at after one ≡ slice_index_or sectors k [])
  cell_old_or_new k i one at =
      let on = on_position v known (start + k) i one at in
      let cell = on_cell v known on.element on.position (start + k) one on.on in
      ⊎_elim inl (λ given. inr (may_cell v known apart start sectors on.element on.position k one (after one.slot one.lba) cell given)) (left one.slot one.lba)

  -- and of another block as before
  pub cell_stays : (block i : ℕ) (one : Site) → ((k : ℕ) → k < length sectors → block ≢ start + k) → slice_get (copies v block) i ≡ Some one → bytes_at after one ≡ bytes_at before one
  cell_stays block i one other at =
      let on = on_position v known block i one at in
      let cell = on_cell v known on.element on.position block one on.on in
      ⊎_elim (λ same. same)
      (⊎_elim
      (λ given.
      let its = on_position v known (start + given.0.k) given.0.i (site_on one.slot one.lba) given.0.is_cell in
      let same = one_owner v known apart on.element on.position its.element its.position block (start + given.0.k) one cell (on_cell v known its.element its.position (start + given.0.k) one its.on) in
      absurd (other given.0.k given.0.below same))
      (λ of.
      let is = of.is_at in
      let sits = block_at_sits v known of.element is.touched.position of.sector (start + is.touched.k) is.touched.holds_it in
      let part_same : sits.part ≡ of.part = some_is (sym sits.is_part ∙ is.is_part) in
      let within = subst (λ (q : Part). of.sector < q.shape.blocks) part_same (block_below v known of.element is.touched.position of.sector (start + is.touched.k) sits) in
      absurd (no_parity v known apart on.element on.position block of.element is.position of.sector of.part one cell is.is_part is.is_parity within is.is_there)))
      (left one.slot one.lba)

-- the mark says nothing of cells and rows
pub unmarked_redundant : (v : Volume) (image : Image) (marked : Bool) → IsRedundant v image → IsRedundant (volume marked v.tiers v.parts) image
unmarked_redundant v image marked is = record { agree = is.agree; sum_to_zero = is.sum_to_zero }
