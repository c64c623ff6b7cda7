-- An array of which one place is another one, and once that is in sync.
use Rattle.std.proofs.Common.{◌≡◌, ◌∙◌, inl, inr, ⊎_elim, ℕ, zero, suc, Bool, true, false, List, [], ◌∷◌, Option, Some, None, refl, sym, ap, arith, slice_get, length, ◌&&◌}
use Rattle.std.specs.Prelude.{is_some, nat_le, if◌then◌else◌}
use Rattle.std.specs.List.{list_all, list_any}
use Rattle.ddf_lemmas.proofs.Lists.{list_all_from}
use Rattle.ddf_lemmas.proofs.Options.{same_some}
use Rattle.ddf_bay.specs.Sectors.{Image}
use Rattle.ddf_data_array.proofs.LessRows.{enough}
use Rattle.ddf_array.specs.declared.part.Part.{Part}
use Rattle.ddf_array.specs.declared.place.Place.{Place}
use Rattle.ddf_array.specs.Apart.{IsApart}
use Rattle.ddf_array.specs.Cells.{is_in_every}
use Rattle.ddf_array.specs.Levels.{keeps_parity}
use Rattle.ddf_array.specs.Places.{is_available}
use Rattle.ddf_array.specs.Volume.{IsVolume, Volume}
use Rattle.ddf_array.specs.Within.{is_mirrored, is_part_within, is_within}
use Rattle.ddf_rebuild.specs.Target.{IsOut}
use Rattle.ddf_data_array.specs.Changing.{changed_item, in_sync, part_in_sync, place_in_sync}
use Rattle.ddf_data_array.specs.Fewer.{AreFewerParts, ArePlaces, HasFewerRows, IsFewerPlace, LeavesRows}
use Rattle.ddf_data_array.specs.Rows.{HasNoRows, IsFirstOut}
use Rattle.ddf_data_array.proofs.Fewer.{same_parts as same_part_count}
use Rattle.ddf_data_array.proofs.Items.{changed_cases, few_away}
use Rattle.ddf_data_array.proofs.Noted.{all_itself}
use Rattle.ddf_uncut_data.specs.Blocks.{HoldsBlocks}
use Rattle.ddf_uncut_data.specs.Replaced.{part_with, replaced_place, with_place}
use Rattle.ddf_uncut_data.specs.Whole.{IsWhole, IsWholeBut}
use Rattle.ddf_uncut_data.proofs.Less.{holds_less}
use Rattle.ddf_uncut_data.proofs.Whole.{in_sync_of, same_places}

-- ---- it has fewer places

fewer_places : (position : ℕ) (new : Place) (places : List Place) → is_available new ≡ false → ArePlaces IsFewerPlace places (changed_item (replaced_place new) position places)
fewer_places position new [] gone = tt
fewer_places zero new (place ∷ places) gone = (inl gone, same_places places)
fewer_places (suc position) new (place ∷ places) gone = (inr (refl, refl, refl), fewer_places position new places gone)

fewer_parts : (element position : ℕ) (new : Place) (parts : List Part) → is_available new ≡ false → AreFewerParts parts (changed_item (part_with position new) element parts)
fewer_parts element position new [] gone = tt
fewer_parts zero position new (part ∷ parts) gone = ((refl, fewer_places position new part.places gone), all_itself parts)
fewer_parts (suc element) position new (part ∷ parts) gone = ((refl, same_places part.places), fewer_parts element position new parts gone)

stays : (was place : Place) → was ≡ place → HasFewerRows was place
stays was place same = inr (inr (inr ((ap (λ (x : Place). x.synced) (sym same), ap (λ (x : Place). x.start) (sym same), ap (λ (x : Place). x.slot) (sym same)), ap (λ (x : Place). x.row) (sym same))))

module _ (v : Volume) (element position : ℕ) (new : Place) where
  rows_left : new.row ≡ 0 → LeavesRows v (with_place element position new v)
  rows_left none k q one other was place one_at other_at was_at place_at = ⊎_elim
      (λ is.
      let same : is.item ≡ one = same_some (slice_get v.parts k) is.item one is.is_item one_at in
      let at : slice_get (changed_item (replaced_place new) position one.places) q ≡ Some place =
      ap (λ (x : Part). slice_get (changed_item (replaced_place new) position x.places) q) (sym same) ∙ ap (λ (x : Part). slice_get x.places q) (sym is.is_changed) ∙ place_at in
      ⊎_elim
      (λ own. inl (ap (λ (x : Place). x.row) own.is_changed ∙ none))
      (λ apart. stays was place (same_some (slice_get one.places q) was place was_at apart.1))
      (changed_cases (replaced_place new) position one.places q place at))
      (λ apart.
      let same : other ≡ one = same_some (slice_get v.parts k) other one apart.1 one_at in
      stays was place (same_some (slice_get one.places q) was place was_at (ap (λ (x : Part). slice_get x.places q) (sym same) ∙ place_at)))
      (changed_cases (part_with position new) element v.parts k other other_at)

  pub holds_replaced : (image : Image) (blocks : ℕ → List ℕ) → is_available new ≡ false → new.row ≡ 0 → IsVolume (with_place element position new v) → IsApart (with_place element position new v)
      → is_within (with_place element position new v) ≡ true → is_mirrored v ≡ false → HoldsBlocks v image blocks → HoldsBlocks (with_place element position new v) image blocks
  holds_replaced image blocks gone none known apart within alone holds =
      let fewer = fewer_parts element position new v.parts gone in
      holds_less v (with_place element position new v) image blocks known apart holds.unmarked within (alone_still (same_part_count v.parts (with_place element position new v).parts fewer))
      (record { mark_is = inr refl; same_tiers = refl; fewer_parts = fewer }) (rows_left none) holds
    where
      alone_still : length (with_place element position new v).parts ≡ length v.parts → is_mirrored (with_place element position new v) ≡ false
      alone_still same = ap (λ (n : ℕ). is_in_every v.tiers.level && nat_le 2 n) same ∙ alone

  -- ---- every other place is as it was

  pub whole_but : IsWhole v → IsWholeBut element position (with_place element position new v)
  whole_but whole k q other place other_at place_at = ⊎_elim
      (λ is.
      let at : slice_get (changed_item (replaced_place new) position is.item.places) q ≡ Some place = ap (λ (x : Part). slice_get x.places q) (sym is.is_changed) ∙ place_at in
      ⊎_elim
      (λ own. inl (is.same_place, own.same_place))
      (λ apart. inr (whole k q is.item place is.is_item apart.1))
      (changed_cases (replaced_place new) position is.item.places q place at))
      (λ apart. inr (whole k q other place apart.1 place_at))
      (changed_cases (part_with position new) element v.parts k other other_at)

-- ---- the position is the only one that is out of sync

pub only_out : (v : Volume) (element position : ℕ) → IsWholeBut element position v → IsFirstOut v element position
only_out v element position whole part part_at keeps earlier place before at = ⊎_elim
    (λ same. absurd (omega (arith, same.1, before)))
    (λ there. in_sync_of place there)
    (whole element earlier part place part_at at)

synced_there : (synced : Bool) (slot : Option ℕ) (s : ℕ) → slot ≡ Some s → synced ≡ true → (synced && is_some slot) ≡ true
synced_there true (Some s) t there e = refl
synced_there true None t there e = absurd (cc)
synced_there false slot t there e = absurd (cc)

pub whole_synced : (v : Volume) (element position : ℕ) → IsOut v element position → IsWholeBut element position v → IsWhole (in_sync element position v)
whole_synced v element position out whole k q other place other_at place_at = ⊎_elim
    (λ is.
    let at : slice_get (changed_item place_in_sync position is.item.places) q ≡ Some place = ap (λ (x : Part). slice_get x.places q) (sym is.is_changed) ∙ place_at in
    ⊎_elim
    (λ own.
    let same_part : is.item ≡ out.part = same_some (slice_get v.parts element) is.item out.part (ap (slice_get v.parts) (sym is.same_place) ∙ is.is_item) out.is_target.is_part in
    let same : own.item ≡ out.place = same_some (slice_get out.part.places position) own.item out.place
    (ap (λ (x : Part). slice_get x.places position) (sym same_part) ∙ ap (slice_get is.item.places) (sym own.same_place) ∙ own.is_item) out.is_target.is_place in
    ap is_available own.is_changed ∙ synced_there true own.item.slot out.slot (ap (λ (x : Place). x.slot) same ∙ out.is_target.is_there) refl)
    (λ apart. ⊎_elim (λ same. absurd (apart.0 same.1)) (λ there. there) (whole k q is.item place is.is_item apart.1))
    (changed_cases place_in_sync position is.item.places q place at))
    (λ apart. ⊎_elim (λ same. absurd (apart.0 same.0)) (λ there. there) (whole k q other place apart.1 place_at))
    (changed_cases (part_in_sync position) element v.parts k other other_at)

-- ---- one place is away, of elements that keep parity

together : (mirrored : Bool) (parts : List Part) → mirrored ≡ false → list_all is_part_within parts ≡ true → (if mirrored then list_any is_part_within parts else list_all is_part_within parts) ≡ true
together true parts alone all = absurd (cc)
together false parts alone all = all

pub within_but : (v : Volume) (element position : ℕ) → is_mirrored v ≡ false → ((k : ℕ) (part : Part) → slice_get v.parts k ≡ Some part → keeps_parity part.shape.layout ≡ true) → IsWholeBut element position v → is_within v ≡ true
within_but v element position alone keep whole =
    together (is_mirrored v) v.parts alone (list_all_from is_part_within v.parts (λ k part at.
    enough part.shape.layout part.places (keep k part at)
    (few_away part.places position (λ q place place_at apart. ⊎_elim (λ same. absurd (apart same.1)) (λ there. there) (whole k q part place at place_at)))))

-- ---- no rows count

pub no_rows_replaced : (v : Volume) (element position : ℕ) (new : Place) → new.row ≡ 0 → HasNoRows v → HasNoRows (with_place element position new v)
no_rows_replaced v element position new none old k q other place other_at place_at = ⊎_elim
    (λ is.
    let at : slice_get (changed_item (replaced_place new) position is.item.places) q ≡ Some place = ap (λ (x : Part). slice_get x.places q) (sym is.is_changed) ∙ place_at in
    ⊎_elim (λ own. ap (λ (x : Place). x.row) own.is_changed ∙ none) (λ apart. old k q is.item place is.is_item apart.1) (changed_cases (replaced_place new) position is.item.places q place at))
    (λ apart. old k q other place apart.1 place_at)
    (changed_cases (part_with position new) element v.parts k other other_at)

pub no_rows_synced : (v : Volume) (element position : ℕ) → HasNoRows v → HasNoRows (in_sync element position v)
no_rows_synced v element position old k q other place other_at place_at = ⊎_elim
    (λ is.
    let at : slice_get (changed_item place_in_sync position is.item.places) q ≡ Some place = ap (λ (x : Part). slice_get x.places q) (sym is.is_changed) ∙ place_at in
    ⊎_elim (λ own. ap (λ (x : Place). x.row) own.is_changed) (λ apart. old k q is.item place is.is_item apart.1) (changed_cases place_in_sync position is.item.places q place at))
    (λ apart. old k q other place apart.1 place_at)
    (changed_cases (part_in_sync position) element v.parts k other other_at)
