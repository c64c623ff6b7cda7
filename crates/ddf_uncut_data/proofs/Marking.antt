-- The view of an array that is marked is the array with its mark, where no rows of it count.
use Rattle.std.proofs.Common.{◌≡◌, ◌∙◌, ℕ, suc, true, List, [], ◌∷◌, Some, refl, sym, ap, map, slice_get}
use Rattle.ddf_array.specs.declared.part.Part.{Part}
use Rattle.ddf_array.specs.declared.place.Place.{Place}
use Rattle.ddf_array.specs.Volume.{Volume, volume}
use Rattle.ddf_data_array.specs.Changing.{with_mark}
use Rattle.ddf_data_array.specs.Rows.{HasNoRows}
use Rattle.ddf_write_commands.proofs.Marked.{cleared, cleared_place, with_mark as marked_view}

cleared_places : (places : List Place) → ((k : ℕ) (place : Place) → slice_get places k ≡ Some place → place.row ≡ 0) → map cleared_place places ≡ places
cleared_places [] none = refl
cleared_places (place ∷ places) none =
    let own : cleared_place place ≡ place = ap (λ (row : ℕ). record place { row = row }) (sym (none 0 place refl)) in
    ap (λ (x : Place). x ∷ map cleared_place places) own ∙ ap (λ (l : List Place). place ∷ l) (cleared_places places (λ k other at. none (suc k) other at))

cleared_parts : (parts : List Part) → ((element position : ℕ) (part : Part) (place : Place) → slice_get parts element ≡ Some part → slice_get part.places position ≡ Some place → place.row ≡ 0) → map cleared parts ≡ parts
cleared_parts [] none = refl
cleared_parts (part ∷ parts) none =
    let own : cleared part ≡ part = ap (λ (l : List Place). record part { places = l }) (cleared_places part.places (λ k place at. none 0 k part place refl at)) in
    ap (λ (x : Part). x ∷ map cleared parts) own ∙ ap (λ (l : List Part). part ∷ l) (cleared_parts parts (λ element position other place. none (suc element) position other place))

pub marked_is : (v : Volume) → HasNoRows v → marked_view v ≡ with_mark true v
marked_is v none = ap (λ (l : List Part). volume true v.tiers l) (cleared_parts v.parts none)
