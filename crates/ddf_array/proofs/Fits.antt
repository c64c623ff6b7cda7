-- The places of a view lie on the slots of its seats, at or below their floors.
use Rattle.std.proofs.Common.{◌≡◌, ◌∙◌, ℕ, zero, suc, ◌+◌, ◌<◌, ◌≤◌, Bool, true, false, List, [], ◌∷◌, length, Option, Some, None, Ok, refl, sym, ap, subst, arith, slice_get, slice_index, map, filter_map, find}
use Rattle.std.specs.Prelude.{nat_le, nat_eq, option_map, if◌then◌else◌}
use Rattle.std.specs.List.{cons_option, position_or_len}
use Rattle.std.proofs.lemmas.Bool.{leb-true}
use Rattle.std.proofs.lemmas.List.Folds.{find_at}
use Rattle.ddf_primary.specs.Placement.{Placement}
use Rattle.ddf_config.specs.declared.element.Position.{Position}
use Rattle.ddf_config.specs.declared.extent.Extent.{Extent}
use Rattle.ddf_config.specs.declared.seat.Seat.{Seat}
use Rattle.ddf_config.specs.Configuration.{Configuration}
use Rattle.ddf_config.specs.ElementValue.{ElementValue}
use Rattle.ddf_config.specs.Extents.{extent}
use Rattle.ddf_config.specs.Shapes.{element_shape}
use Rattle.ddf_array.specs.declared.part.Part.{Part}
use Rattle.ddf_array.specs.declared.place.Place.{Place}
use Rattle.ddf_array.specs.Volume.{Volume, Fits}
use Rattle.ddf_config.specs.Seats.{SeatsFit}
use Rattle.ddf_array.specs.Viewing.{seat_slot, place_of, known_part, view_of}
use Rattle.ddf_array.proofs.Viewed.{from_view}
use Rattle.ddf_array.proofs.Shapes.{blocks_are}

-- what holds of each slot of a seat and each end that its floor allows
module _ (Q : (slot end : ℕ) → Type 0) (seats : List Seat) (seated : (k end : ℕ) (seat : Seat) → slice_get seats k ≡ Some seat → end ≤ seat.floor → Q seat.slot end) where
  -- it holds of the places of an element
  abbrev AreSeated : Part → Type 0
  AreSeated part = (position : ℕ) (place : Place) → slice_get part.places position ≡ Some place → (slot : ℕ) → place.slot ≡ Some slot → Q slot (place.start + part.shape.blocks)

  seat_by : (end slot : ℕ) (seat : Seat) (k : ℕ) → slice_get seats k ≡ Some seat → (b : Bool) → nat_le end seat.floor ≡ b
      → (if b then Some seat.slot else None) ≡ Some slot → Q slot end
  seat_by end slot seat k at true below e =
      let same : seat.slot ≡ slot = cc in
      subst (λ (s : ℕ). Q s end) same (seated k end seat at (leb-true end seat.floor below))
  seat_by end slot seat k at false below e = absurd (cc)

  slot_by : (end slot : ℕ) (found : Option Seat) (k : ℕ) → slice_get seats k ≡ found
      → elim (option_map (λ (seat : Seat). seat.floor) found) [
        | None ↦ None
        | Some floor ↦ if nat_le end floor then Some (elim found [ None ↦ 64 | Some seat ↦ seat.slot ]) else None
      ] ≡ Some slot → Q slot end
  slot_by end slot None k at e = absurd (cc)
  slot_by end slot (Some seat) k at e = seat_by end slot seat k at (nat_le end seat.floor) refl e

  slot_seated : (one : Extent) (slot : ℕ) → seat_slot seats one ≡ Some slot → Q slot (one.start + one.blocks)
  slot_seated one slot e =
      let test = λ (seat : Seat). nat_eq seat.reference one.reference in
      slot_by (one.start + one.blocks) slot (find test seats) (position_or_len test seats) (sym (find_at test seats)) e

  place_seated : (blocks : ℕ) (positions : List Position) (k : ℕ) (place : Place) → slice_get (map (place_of seats blocks) positions) k ≡ Some place
      → (slot : ℕ) → place.slot ≡ Some slot → Q slot (place.start + blocks)
  place_seated blocks [] k place at slot e = absurd (cc)
  place_seated blocks (position ∷ positions) zero place at slot e =
      let same : place_of seats blocks position ≡ place = cc in
      subst (λ (p : Place). Q slot (p.start + blocks)) same
      (slot_seated (extent blocks position) slot (ap (λ (p : Place). p.slot) same ∙ e))
  place_seated blocks (position ∷ positions) (suc k) place at slot e = place_seated blocks positions k place at slot e

  shape_by : (elements : ℕ) (element : ElementValue) (part : Part) (found : Option Placement) → element_shape elements element ≡ found
      → option_map (λ (shape : Placement). record { shape = shape; places = map (place_of seats element.blocks) element.positions }) found ≡ Some part → AreSeated part
  shape_by elements element part None made e = absurd (cc)
  shape_by elements element part (Some shape) made e =
      let whole : Part = record { shape = shape; places = map (place_of seats element.blocks) element.positions } in
      let same : whole ≡ part = cc in
      subst (AreSeated) same
      (λ position place at slot is. subst (λ (n : ℕ). Q slot (place.start + n)) (sym (blocks_are elements element shape made)) (place_seated element.blocks element.positions position place at slot is))

  part_seated : (elements : ℕ) (known : Option ElementValue) (part : Part) → known_part seats elements known ≡ Some part → AreSeated part
  part_seated elements None part e = absurd (cc)
  part_seated elements (Some element) part e = shape_by elements element part (element_shape elements element) refl e

  one_seated : (found : Option Part) (others : List Part) → ((part : Part) → found ≡ Some part → AreSeated part)
      → ((k : ℕ) (part : Part) → slice_get others k ≡ Some part → AreSeated part)
      → (k : ℕ) (part : Part) → slice_get (cons_option found others) k ≡ Some part → AreSeated part
  one_seated None others here rest k part at = rest k part at
  one_seated (Some first) others here rest zero part at = here part at
  one_seated (Some first) others here rest (suc k) part at = rest k part at

  parts_seated : (elements : ℕ) (known : List (Option ElementValue)) (k : ℕ) (part : Part) → slice_get (filter_map (known_part seats elements) known) k ≡ Some part → AreSeated part
  parts_seated elements [] k part at = absurd (cc)
  parts_seated elements (one ∷ others) k part at =
      one_seated (known_part seats elements one) (filter_map (known_part seats elements) others) (part_seated elements one) (parts_seated elements others) k part at

-- it holds of the places of a view
pub view_seated : (config : Configuration) (guid : List ℕ) (seats : List Seat) (v : Volume) (Q : (slot end : ℕ) → Type 0) → view_of config guid seats ≡ Ok v
    → ((k end : ℕ) (seat : Seat) → slice_get seats k ≡ Some seat → end ≤ seat.floor → Q seat.slot end)
    → (element : ℕ) (part : Part) → slice_get v.parts element ≡ Some part → (position : ℕ) (place : Place) → slice_get part.places position ≡ Some place
    → (slot : ℕ) → place.slot ≡ Some slot → Q slot (place.start + part.shape.blocks)
view_seated config guid seats v Q e seated element part at =
    let view = from_view config guid seats v e in
    parts_seated Q seats seated (length view.array.elements) view.array.elements element part (ap (λ (l : List Part). slice_get l element) (sym view.parts_are) ∙ at)

pub view_fits : (config : Configuration) (guid : List ℕ) (seats : List Seat) (v : Volume) (sizes : List ℕ) → view_of config guid seats ≡ Ok v → SeatsFit sizes seats → Fits sizes v
view_fits config guid seats v sizes e fit =
    view_seated config guid seats v (λ slot end. (slot < length sizes) × (end ≤ slice_index sizes slot)) e
    (λ k end seat at below. let on = fit k seat at in (on.0, omega (arith, on.1, below)))

-- a place is on the slot of a seat
pub place_seat : (config : Configuration) (guid : List ℕ) (seats : List Seat) (v : Volume) (element position slot : ℕ) (part : Part) (place : Place) → view_of config guid seats ≡ Ok v
    → slice_get v.parts element ≡ Some part → slice_get part.places position ≡ Some place → place.slot ≡ Some slot → (k : ℕ) × ((seat : Seat) × (slice_get seats k ≡ Some seat) × (seat.slot ≡ slot))
place_seat config guid seats v element position slot part place e part_at place_at slot_is =
    view_seated config guid seats v (λ s end. (k : ℕ) × ((seat : Seat) × (slice_get seats k ≡ Some seat) × (seat.slot ≡ s))) e
    (λ k end seat at below. (k, (seat, at, refl))) element part part_at position place place_at slot slot_is
