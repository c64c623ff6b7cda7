-- What the loss of disks makes of an array, and that it leaves parity.
use Rattle.std.proofs.Common.{◌≡◌, ◌∙◌, inl, inr, ℕ, zero, suc, ◌≤◌, Bool, true, false, not, List, [], ◌∷◌, Option, Some, None, refl, sym, ap, subst, arith, map, length, slice_get, ◌&&◌}
use Rattle.std.specs.Prelude.{◌==◌, nat_le, count_by, option_map, if◌then◌else◌}
use Rattle.std.specs.List.{list_all, list_any}
use Rattle.std.proofs.lemmas.Bool.{leb-true}
use Rattle.ddf_lemmas.proofs.Tests.{true_false}
use Rattle.ddf_primary.specs.declared.need.Need.{Need}
use Rattle.ddf_primary.specs.Needs.{need_by, need_of}
use Rattle.ddf_primary.proofs.Needs.{parity_needs}
use Rattle.ddf_array.proofs.Told.{shape_coded}
use Rattle.ddf_config.specs.Within.{has_enough}
use Rattle.ddf_config.specs.declared.array.Array.{Array}
use Rattle.ddf_config.specs.declared.element.Position.{Position}
use Rattle.ddf_config.specs.declared.member.Member.{Member}
use Rattle.ddf_config.specs.declared.seat.Seat.{Seat}
use Rattle.ddf_config.specs.ElementValue.{ElementValue}
use Rattle.ddf_config.specs.Within as config
use Rattle.ddf_plan.specs.Lose.{is_among, lost_position, lost_element, lost_parts, wholly_out, out_of_sync, out_beyond, has_part_within, lost_array}
use Rattle.ddf_array.specs.declared.place.Place.{Place}
use Rattle.ddf_array.specs.declared.part.Part.{Part}
use Rattle.ddf_array.specs.Levels.{keeps_parity}
use Rattle.ddf_array.specs.Places.{is_available}
use Rattle.ddf_array.specs.Viewing.{place_of}
use Rattle.ddf_array.specs.Volume.{Volume}
use Rattle.ddf_array.specs.Within.{is_mirrored, is_part_within, is_within}
use Rattle.ddf_array.proofs.Enough.{all_pass}
use Rattle.ddf_data_array.specs.Fewer.{NoneLeft, LeavesParity}
use Rattle.ddf_data_group.specs.Over.{AreCurrentSeats, IsOver, absent_in}
use Rattle.ddf_data_group.specs.Lessening.{IsLessPosition, AreLessPositions, IsLessElement, IsLessPart, AreLessParts, IsLessArray}
use Rattle.ddf_data_group.proofs.Lessened.{parts_count}
use Rattle.ddf_data_group.proofs.Parts.{IsPartOf, absent_is, any_within, by_seats, count_down, mirrored_is, of_part}

-- ---- it leaves less

module _ (references : List ℕ) where
  less_lost : (b : Bool) (position : Position) → IsLessPosition position (if b then out_of_sync position else position)
  less_lost true position = inl (refl, refl)
  less_lost false position = inr (refl, refl, refl, inr refl)

  positions_lost : (positions : List Position) → AreLessPositions positions (map (lost_position references) positions)
  positions_lost [] = tt
  positions_lost (position ∷ positions) = (less_lost (is_among references position.reference) position, positions_lost positions)

  positions_out : (positions : List Position) → AreLessPositions positions (map out_of_sync (map (lost_position references) positions))
  positions_out [] = tt
  positions_out (position ∷ positions) = (inl (refl, refl), positions_out positions)

  element_lost : (element : ElementValue) → IsLessElement element (lost_element references element)
  element_lost element = record { same_level = refl; same_qualifier = refl; same_strip = refl; same_blocks = refl; less = positions_lost element.positions }

  element_out : (element : ElementValue) → IsLessElement element (wholly_out (lost_element references element))
  element_out element = record { same_level = refl; same_qualifier = refl; same_strip = refl; same_blocks = refl; less = positions_out element.positions }

  pub parts_lost : (known : List (Option ElementValue)) → AreLessParts known (map (option_map (lost_element references)) known)
  parts_lost [] = tt
  parts_lost (None ∷ known) = (tt, parts_lost known)
  parts_lost (Some element ∷ known) = (element_lost element, parts_lost known)

  module _ (members : List (ℕ × Member)) where
    beyond_by : (element : ElementValue) (b : Bool) → IsLessPart (Some element) (if b then Some (lost_element references element) else option_map wholly_out (Some (lost_element references element)))
    beyond_by element true = element_lost element
    beyond_by element false = element_out element

    none_by : (b : Bool) → IsLessPart None (if b then None else option_map wholly_out None)
    none_by true = tt
    none_by false = tt

    parts_beyond : (known : List (Option ElementValue)) → AreLessParts known (map (out_beyond members) (map (option_map (lost_element references)) known))
    parts_beyond [] = tt
    parts_beyond (None ∷ known) = (none_by (config.is_part_within (config.is_available members) None), parts_beyond known)
    parts_beyond (Some element ∷ known) = (beyond_by element (config.is_part_within (config.is_available members) (Some (lost_element references element))), parts_beyond known)

    all_by : (known : List (Option ElementValue)) (b : Bool) → AreLessParts known (if b then map (out_beyond members) (map (option_map (lost_element references)) known) else map (option_map (lost_element references)) known)
    all_by known true = parts_beyond known
    all_by known false = parts_lost known

    pub is_less : (array : Array) → IsLessArray array (lost_array members references array)
    is_less array = record {
      same_secondary = refl;
      mark_is = inr refl;
      less = all_by array.elements (config.is_mirrored array && has_part_within members (lost_parts references array));
    }

-- ---- it leaves parity

mapped_from : {X Y : Type 0} (f : X → Y) (xs : List X) (k : ℕ) (y : Y) → slice_get (map f xs) k ≡ Some y → (x : X) × (f x ≡ y)
mapped_from f [] k y e = absurd (cc)
mapped_from f (x ∷ xs) zero y e = (x, cc)
mapped_from f (x ∷ xs) (suc k) y e = mapped_from f xs k y e

out_none : (seats : List Seat) (blocks : ℕ) (positions : List Position) (k : ℕ) (place : Place) → slice_get (map (place_of seats blocks) (map out_of_sync positions)) k ≡ Some place → (is_available place ≡ false) × (place.row ≡ 0)
out_none seats blocks [] k place at = absurd (cc)
out_none seats blocks (position ∷ positions) zero place at =
    let same : place_of seats blocks (out_of_sync position) ≡ place = cc in subst (λ (x : Place). (is_available x ≡ false) × (x.row ≡ 0)) same (refl, refl)
out_none seats blocks (position ∷ positions) (suc k) place at = out_none seats blocks positions k place at

module _ (members : List (ℕ × Member)) (seats : List Seat) (are : AreCurrentSeats members seats) (references : List ℕ) (array : Array) (v : Volume) (over : IsOver seats (lost_array members references array) v)
    (within : is_within v ≡ true) (k : ℕ) (part : Part) (part_at : slice_get v.parts k ≡ Some part) (parity : keeps_parity part.shape.layout ≡ true)
    (lacks : 2 ≤ count_by (λ place. not (is_available place)) part.places)
    (none : (position : ℕ) → absent_in members seats (lost_array members references array).elements k position ≡ false) where
  abbrev after : Array
  after = lost_array members references array

  abbrev lost : List (Option ElementValue)
  lost = lost_parts references array

  from : IsPartOf seats (length (lost_array members references array).elements) (lost_array members references array).elements k part
  from = of_part seats (lost_array members references array) v over k part part_at

  module _ (element : ElementValue) (is_element : slice_get (lost_array members references array).elements k ≡ Some (Some element))
      (need_is : need_by part.shape.layout ≡ need_of element.level element.qualifier) (places_are : part.places ≡ map (place_of seats element.blocks) element.positions) where
    -- by the members the element lacks no fewer
    no_fewer : 2 ≤ count_by (λ position. not (config.is_available members position)) element.positions
    no_fewer =
        let down = count_down (place_of seats element.blocks) is_available (config.is_available members) element.positions (λ j position at.
        by_seats members seats element position (sym (absent_is members seats (lost_array members references array).elements k j element position is_element at) ∙ none j)) in
        let many = subst (λ (l : List Place). 2 ≤ count_by (λ place. not (is_available place)) l) places_are lacks in
        omega (arith, down, many)

    -- so it isn't within its level by the members
    not_within : config.is_part_within (config.is_available members) (Some element) ≡ true → ⊥
    not_within e =
        let few = leb-true (count_by (λ position. not (config.is_available members position)) element.positions) 1
        (ap (λ (n : Need). has_enough n (config.is_available members) element.positions) (sym (parity_needs part.shape.layout parity) ∙ need_is) ∙ e) in
        omega (arith, few, no_fewer)

  not_within_seats : is_part_within part ≡ true → ⊥
  not_within_seats e =
      let few = leb-true (count_by (λ place. not (is_available place)) part.places) 1 (ap (λ (n : Need). has_enough n is_available part.places) (sym (parity_needs part.shape.layout parity)) ∙ e) in
      omega (arith, few, lacks)

  need_of_part : need_by part.shape.layout ≡ need_of (from).element.level (from).element.qualifier
  need_of_part = (shape_coded (length (lost_array members references array).elements) (from).element part.shape (from).shape_is).need

  gone_by : (found : Option ElementValue) (b : Bool) → config.is_part_within (config.is_available members) found ≡ b → (if b then found else option_map wholly_out found) ≡ Some (from).element → NoneLeft part.places
  gone_by found true is e =
      absurd (not_within (from).element (from).is_element need_of_part (from).places_are (ap (config.is_part_within (config.is_available members)) (sym e) ∙ is))
  gone_by None false is e = absurd (cc)
  gone_by (Some one) false is e =
      let same : wholly_out one ≡ (from).element = cc in
      λ j place at. out_none seats one.blocks one.positions j place
      (ap (λ (l : List Place). slice_get l j) (ap (λ (x : ElementValue). map (place_of seats x.blocks) x.positions) same ∙ sym (from).places_are) ∙ at)

  by_both : (mirrored has : Bool) → config.is_mirrored array ≡ mirrored → has_part_within members lost ≡ has → NoneLeft part.places
  by_both true true is has_one =
      let elements_are : (lost_array members references array).elements ≡ map (out_beyond members) lost =
      ap (λ b. if b && has_part_within members lost then map (out_beyond members) lost else lost) is ∙ ap (λ b. if b then map (out_beyond members) lost else lost) has_one in
      let one = mapped_from (out_beyond members) lost k (Some (from).element) (ap (λ (l : List (Option ElementValue)). slice_get l k) (sym elements_are) ∙ (from).is_element) in
      gone_by one.0 (config.is_part_within (config.is_available members) one.0) refl one.1
  by_both true false is has_none =
      let elements_are : (lost_array members references array).elements ≡ lost =
      ap (λ b. if b && has_part_within members lost then map (out_beyond members) lost else lost) is ∙ ap (λ b. if b then map (out_beyond members) lost else lost) has_none in
      let mirrored : is_mirrored v ≡ true = mirrored_is seats (lost_array members references array) v over ∙ same_mirrored ∙ is in
      let any = ap (λ b. if b then list_any is_part_within v.parts else list_all is_part_within v.parts) (sym mirrored) ∙ within in
      let some = any_within members seats are (length (lost_array members references array).elements) (lost_array members references array).elements
      (ap (list_any is_part_within) (sym over.parts_are) ∙ any) in
      absurd (true_false (has_part_within members lost) (ap (list_any (config.is_part_within (config.is_available members))) (sym elements_are) ∙ some) has_none)
    where
      same_mirrored : config.is_mirrored (lost_array members references array) ≡ config.is_mirrored array
      same_mirrored =
          ap (λ (n : ℕ). array.secondary == 0x01 && nat_le 2 n) (parts_count array.elements (lost_array members references array).elements (is_less references members array).less)
  by_both false has is any =
      let mirrored : is_mirrored v ≡ false = mirrored_is seats (lost_array members references array) v over ∙ same_mirrored ∙ is in
      let all = ap (λ b. if b then list_any is_part_within v.parts else list_all is_part_within v.parts) (sym mirrored) ∙ within in
      absurd (not_within_seats (all_pass is_part_within v.parts all k part part_at))
    where
      same_mirrored : config.is_mirrored (lost_array members references array) ≡ config.is_mirrored array
      same_mirrored =
          ap (λ (n : ℕ). array.secondary == 0x01 && nat_le 2 n) (parts_count array.elements (lost_array members references array).elements (is_less references members array).less)

  pub all_gone : NoneLeft part.places
  all_gone = by_both (config.is_mirrored array) (has_part_within members lost) refl refl

pub lost_parity : (is_absent : ℕ → ℕ → Bool) (members : List (ℕ × Member)) (seats : List Seat) (references : List ℕ) (array : Array) (old v : Volume) → AreCurrentSeats members seats
    → IsOver seats (lost_array members references array) v → LeavesParity is_absent (absent_in members seats (lost_array members references array).elements) old v
lost_parity is_absent members seats references array old v are over = record {
  stays = λ unmarked within k one other one_at other_at parity lacks none. inr (all_gone members seats are references array v over within k other other_at parity lacks none);
}
