-- An array of which a position is in sync again, or rows of a position count as rebuilt, keeps what it keeps.
use Rattle.std.proofs.Common.{◌≡◌, ◌∙◌, ⊎_elim, ℕ, zero, suc, Bool, false, List, [], ◌∷◌, Some, None, refl, sym, ap, subst, map, length, slice_get}
use Rattle.std.proofs.lemmas.Bool.{cases_eq}
use Rattle.ddf_bay.specs.Sectors.{Image}
use Rattle.ddf_config.specs.declared.array.Array.{Array}
use Rattle.ddf_config.specs.declared.element.Position.{Position}
use Rattle.ddf_config.specs.declared.member.Member.{Member}
use Rattle.ddf_config.specs.declared.seat.Seat.{Seat}
use Rattle.ddf_config.specs.ElementValue.{ElementValue}
use Rattle.ddf_array.specs.declared.place.Place.{Place}
use Rattle.ddf_array.specs.Viewing.{place_of}
use Rattle.ddf_array.specs.Volume.{Volume}
use Rattle.ddf_data_array.specs.Allowed.{Allowed}
use Rattle.ddf_data_array.specs.Changing.{changed_item, place_in_sync, place_noted}
use Rattle.ddf_data_array.specs.Kept.{IsKeptData}
use Rattle.ddf_data_array.proofs.FinishedRows.{kept_finished}
use Rattle.ddf_data_array.proofs.Items.{changed_at, changed_length, unchanged_at}
use Rattle.ddf_data_array.proofs.Noted.{kept_noted}
use Rattle.ddf_data_group.specs.Over.{IsOver, absent_in, lacks_disk}
use Rattle.ddf_data_group.specs.Kept.{KeepsArray}
use Rattle.ddf_data_group.specs.Clearing.{IsInSync, IsNotedArray, MayBeInSync, MayBeNoted, position_in_sync, position_noted}
use Rattle.ddf_data_group.proofs.Remade.{Remakes, was}

-- ---- one position, on the extent that it was on

module _ (f : Position → Position) (place_f : Place → Place) (follows : (seats : List Seat) (blocks : ℕ) (position : Position) → place_of seats blocks (f position) ≡ place_f (place_of seats blocks position))
    (same_start : (place : Place) → (place_f place).start ≡ place.start) (same_slot : (place : Place) → (place_f place).slot ≡ place.slot)
    (same_lack : (members : List (ℕ × Member)) (seats : List Seat) (element : ElementValue) (position : Position) → lacks_disk members seats element (f position) ≡ lacks_disk members seats element position) where
  one_place : (seats : List Seat) (blocks p : ℕ) (positions : List Position) → map (place_of seats blocks) (changed_item f p positions) ≡ changed_item place_f p (map (place_of seats blocks) positions)
  one_place seats blocks p [] = refl
  one_place seats blocks zero (one ∷ positions) = ap (λ x. x ∷ map (place_of seats blocks) positions) (follows seats blocks one)
  one_place seats blocks (suc p) (one ∷ positions) = ap (λ l. place_of seats blocks one ∷ l) (one_place seats blocks p positions)

  one_lies : (p : ℕ) (places : List Place) (j : ℕ) (place : Place) → slice_get places j ≡ Some place
      → (other : Place) × (slice_get (changed_item place_f p places) j ≡ Some other) × (other.start ≡ place.start) × (other.slot ≡ place.slot)
  one_lies p places j place at =
      ⊎_elim
      (λ here. (
        place_f place,
        ap (slice_get (changed_item place_f p places)) here ∙ changed_at place_f p places place (ap (slice_get places) (sym here) ∙ at),
        same_start place,
        same_slot place,
      ))
      (λ other. (place, unchanged_at place_f p places j place other at, refl, refl)) (cases_eq j p)

  one_lacks : (members : List (ℕ × Member)) (seats : List Seat) (element : ElementValue) (p : ℕ) (positions : List Position) (j : ℕ)
      → ◌≡◌ {A = Bool} (elim (slice_get (changed_item f p positions) j) [ None ↦ false | Some one ↦ lacks_disk members seats element one ])
      (elim (slice_get positions j) [ None ↦ false | Some one ↦ lacks_disk members seats element one ])
  one_lacks members seats element p [] j = refl
  one_lacks members seats element zero (one ∷ positions) zero = same_lack members seats element one
  one_lacks members seats element zero (one ∷ positions) (suc j) = refl
  one_lacks members seats element (suc p) (one ∷ positions) zero = refl
  one_lacks members seats element (suc p) (one ∷ positions) (suc j) = one_lacks members seats element p positions j

-- ---- a position in sync

pub remakes_synced : (p : ℕ) → Remakes (changed_item position_in_sync p) (changed_item place_in_sync p)
remakes_synced p = record {
  as_many = λ positions. changed_length position_in_sync p positions;
  as_many_places = λ places. changed_length place_in_sync p places;
  same_places = λ seats blocks positions.
      one_place position_in_sync place_in_sync (λ seats blocks position. refl) (λ place. refl) (λ place. refl) (λ members seats element position. refl) seats blocks p positions;
  lies = one_lies position_in_sync place_in_sync (λ seats blocks position. refl) (λ place. refl) (λ place. refl) (λ members seats element position. refl) p;
  lacks = λ members seats element positions j.
      one_lacks position_in_sync place_in_sync (λ seats blocks position. refl) (λ place. refl) (λ place. refl) (λ members seats element position. refl) members seats element p positions j;
}

pub finished : (members : List (ℕ × Member)) (seats : List Seat) (e p : ℕ) (before after : Array) (image : Image) (allowed : Allowed) → IsInSync e p before after
    → ((v : Volume) → IsOver seats before v → MayBeInSync (absent_in members seats before.elements) v image e p)
    → KeepsArray members seats before image allowed → KeepsArray members seats after image allowed
finished members seats e p before after image allowed is may kept v over =
    let there = was (changed_item position_in_sync p) (changed_item place_in_sync p) (remakes_synced p) members seats e before after v is.same_secondary is.same_mark is.elements_are over in
    let ready = may there.old there.over in
    let done = kept_finished (absent_in members seats before.elements) there.old image allowed e p there.over.is_volume ready.unmarked ready.within ready.target ready.all_read ready.first ready.rebuilt (kept there.old there.over) in
    subst (λ (x : ℕ → ℕ → Bool). IsKeptData x v image allowed) there.same_absent (subst (λ (x : Volume). IsKeptData (absent_in members seats before.elements) x image allowed) there.is_volume done)

-- ---- rows that count

module _ (p row : ℕ) where
  abbrev positions_by : List Position → List Position
  positions_by positions = changed_item (position_noted row) p (map (position_noted 0) positions)

  abbrev places_by : List Place → List Place
  places_by places = changed_item (place_noted row) p (map (place_noted 0) places)

  length_mapped : {X : Type 0} (f : X → X) (xs : List X) → length (map f xs) ≡ length xs
  length_mapped f [] = refl
  length_mapped f (x ∷ xs) = ap suc (length_mapped f xs)

  rest_places : (seats : List Seat) (blocks : ℕ) (positions : List Position) → map (place_of seats blocks) (map (position_noted 0) positions) ≡ map (place_noted 0) (map (place_of seats blocks) positions)
  rest_places seats blocks [] = refl
  rest_places seats blocks (one ∷ positions) = ap (λ l. place_of seats blocks (position_noted 0 one) ∷ l) (rest_places seats blocks positions)

  rest_lies : (places : List Place) (j : ℕ) (place : Place) → slice_get places j ≡ Some place → slice_get (map (place_noted 0) places) j ≡ Some (place_noted 0 place)
  rest_lies [] j place at = absurd (cc)
  rest_lies (one ∷ places) zero place at = let same : one ≡ place = cc in ap (λ (x : Place). Some (place_noted 0 x)) same
  rest_lies (one ∷ places) (suc j) place at = rest_lies places j place at

  rest_lacks : (members : List (ℕ × Member)) (seats : List Seat) (element : ElementValue) (positions : List Position) (j : ℕ)
      → ◌≡◌ {A = Bool} (elim (slice_get (map (position_noted 0) positions) j) [ None ↦ false | Some one ↦ lacks_disk members seats element one ])
      (elim (slice_get positions j) [ None ↦ false | Some one ↦ lacks_disk members seats element one ])
  rest_lacks members seats element [] j = refl
  rest_lacks members seats element (one ∷ positions) zero = refl
  rest_lacks members seats element (one ∷ positions) (suc j) = rest_lacks members seats element positions j

  remakes_noted : Remakes positions_by places_by
  remakes_noted = record {
    as_many = λ positions. changed_length (position_noted row) p (map (position_noted 0) positions) ∙ length_mapped (position_noted 0) positions;
    as_many_places = λ places. changed_length (place_noted row) p (map (place_noted 0) places) ∙ length_mapped (place_noted 0) places;
    same_places = λ seats blocks positions.
        one_place (position_noted row) (place_noted row) (λ seats blocks position. refl) (λ place. refl) (λ place. refl) (λ members seats element position. refl) seats blocks p (map (position_noted 0) positions)
        ∙ ap (changed_item (place_noted row) p) (rest_places seats blocks positions);
    lies = λ places j place at.
        one_lies (position_noted row) (place_noted row) (λ seats blocks position. refl) (λ place. refl) (λ place. refl) (λ members seats element position. refl) p (map (place_noted 0) places) j (place_noted 0 place) (rest_lies places j place at);
    lacks = λ members seats element positions j.
        one_lacks (position_noted row) (place_noted row) (λ seats blocks position. refl) (λ place. refl) (λ place. refl) (λ members seats element position. refl) members seats element p (map (position_noted 0) positions) j
        ∙ rest_lacks members seats element positions j;
  }

pub noted_rows : (members : List (ℕ × Member)) (seats : List Seat) (e p row : ℕ) (before after : Array) (image : Image) (allowed : Allowed) → IsNotedArray e p row before after
    → ((v : Volume) → IsOver seats before v → MayBeNoted v image e p row)
    → KeepsArray members seats before image allowed → KeepsArray members seats after image allowed
noted_rows members seats e p row before after image allowed is may kept v over =
    let there = was (positions_by p row) (places_by p row) (remakes_noted p row) members seats e before after v is.same_secondary is.same_mark is.elements_are over in
    let ready = may there.old there.over in
    let done = kept_noted (absent_in members seats before.elements) there.old image allowed e p row there.over.is_volume ready.first ready.rebuilt (kept there.old there.over) in
    subst (λ (x : ℕ → ℕ → Bool). IsKeptData x v image allowed) there.same_absent (subst (λ (x : Volume). IsKeptData (absent_in members seats before.elements) x image allowed) there.is_volume done)
