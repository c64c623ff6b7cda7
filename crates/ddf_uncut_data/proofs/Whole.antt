-- What an array has that lacks no place.
use Rattle.std.proofs.Common.{◌≡◌, inl, inr, ℕ, suc, Bool, true, false, not, List, [], ◌∷◌, Some, refl, slice_get, ◌&&◌}
use Rattle.std.specs.List.{list_all, list_any}
use Rattle.std.proofs.lemmas.Bool.{or_from}
use Rattle.ddf_lemmas.proofs.Lists.{list_all_from}
use Rattle.ddf_lemmas.proofs.Options.{first_of_and_some}
use Rattle.ddf_lemmas.proofs.Tests.{true_false}
use Rattle.ddf_bay.specs.Sectors.{Image}
use Rattle.ddf_array.specs.declared.part.Part.{Part}
use Rattle.ddf_array.specs.declared.place.Place.{Place}
use Rattle.ddf_array.specs.Levels.{keeps_parity}
use Rattle.ddf_array.specs.Places.{is_available}
use Rattle.ddf_array.specs.Volume.{Volume, IsVolume}
use Rattle.ddf_cells.specs.Degraded.{is_degraded, lacks_place}
use Rattle.ddf_rebuild.specs.Target.{IsTarget}
use Rattle.ddf_data_array.specs.Allowed.{Allowed}
use Rattle.ddf_data_array.specs.Changing.{with_mark}
use Rattle.ddf_data_array.specs.Fewer.{ArePlaces, IsFewerPlace}
use Rattle.ddf_data_array.specs.Kept.{IsKeptData}
use Rattle.ddf_data_array.specs.Rows.{AreRowsKept}
use Rattle.ddf_data_array.proofs.LessRows.{kept_less}
use Rattle.ddf_data_array.proofs.Noted.{all_itself}
use Rattle.ddf_uncut_data.specs.Whole.{IsWhole}

-- ---- no element lacks a place

not_lacking : (keeps all : Bool) → all ≡ true → (keeps && not all) ≡ false
not_lacking true true e = refl
not_lacking false true e = refl
not_lacking keeps false e = absurd (cc)

none_lacks : (parts : List Part) → ((element position : ℕ) (part : Part) (place : Place) → slice_get parts element ≡ Some part → slice_get part.places position ≡ Some place → is_available place ≡ true)
    → list_any lacks_place parts ≡ false
none_lacks [] whole = refl
none_lacks (part ∷ parts) whole =
    or_from (lacks_place part) (list_any lacks_place parts)
    (not_lacking (keeps_parity part.shape.layout) (list_all is_available part.places) (list_all_from is_available part.places (λ k place at. whole 0 k part place refl at)))
    (none_lacks parts (λ element position other place. whole (suc element) position other place))

pub not_degraded : (v : Volume) → IsWhole v → is_degraded v ≡ false
not_degraded v whole = none_lacks v.parts whole

-- ---- no position is out of sync

pub in_sync_of : (place : Place) → is_available place ≡ true → place.synced ≡ true
in_sync_of place there = first_of_and_some place.synced place.slot there

pub no_target : (v : Volume) → IsWhole v → (element position : ℕ) (part : Part) (place : Place) (slot : ℕ) → IsTarget v element position part place slot → ⊥
no_target v whole element position part place slot target =
    true_false place.synced (in_sync_of place (whole element position part place target.is_part target.is_place)) target.is_out

pub whole_rows : (is_absent : ℕ → ℕ → Bool) (v : Volume) (image : Image) → IsWhole v → AreRowsKept is_absent v image
whole_rows is_absent v image whole = record {
  rebuilt = λ unmarked within element position part place slot target counts. absurd (no_target v whole element position part place slot target);
  first = λ unmarked within element position part place slot target counts. absurd (no_target v whole element position part place slot target);
}

-- ---- with or without a mark

pub same_places : (places : List Place) → ArePlaces IsFewerPlace places places
same_places [] = tt
same_places (place ∷ places) = (inr (refl, refl, refl), same_places places)

pub marked_volume : (marked : Bool) (v : Volume) → IsVolume v → IsVolume (with_mark marked v)
marked_volume marked v known = record { array_is = known.array_is; has_sizes = known.has_sizes; are_parts = known.are_parts }

-- A whole array keeps under a mark what it keeps.
pub kept_marked : (is_absent : ℕ → ℕ → Bool) (v : Volume) (image : Image) (allowed : Allowed) → IsVolume v → IsWhole v → IsKeptData is_absent v image allowed → IsKeptData is_absent (with_mark true v) image allowed
kept_marked is_absent v image allowed known whole kept =
    kept_less is_absent is_absent v (with_mark true v) image allowed (marked_volume true v known) (record { mark_is = inl refl; same_tiers = refl; fewer_parts = all_itself v.parts })
    (record { stays = λ unmarked within element one other one_at other_at keeps lacks none. absurd (true_false true refl unmarked) })
    (λ element position one other was place one_at other_at was_at place_at. inr (inl (in_sync_of place (whole element position other place other_at place_at)))) kept
