-- An array over fewer seats, or with fewer positions in sync, counts no more rows as rebuilt.
use Rattle.std.proofs.Common.{◌≡◌, ◌∙◌, inl, inr, ⊎_elim, ℕ, zero, suc, List, [], ◌∷◌, Option, Some, None, sym, ap, subst, map, slice_get}
use Rattle.ddf_config.specs.declared.array.Array.{Array}
use Rattle.ddf_config.specs.declared.element.Position.{Position}
use Rattle.ddf_config.specs.declared.seat.Seat.{Seat}
use Rattle.ddf_config.specs.ElementValue.{ElementValue}
use Rattle.ddf_config.specs.Extents.{extent}
use Rattle.ddf_array.specs.declared.place.Place.{Place}
use Rattle.ddf_array.specs.Losing.{AreFewer}
use Rattle.ddf_array.specs.Viewing.{place_of, seat_slot}
use Rattle.ddf_array.specs.Volume.{Volume}
use Rattle.ddf_data_array.specs.Fewer.{HasFewerRows, LeavesRows}
use Rattle.ddf_data_group.specs.Over.{IsOver}
use Rattle.ddf_data_group.specs.Lessening.{AreLessParts, AreLessPositions, IsLessElement, IsLessPosition}
use Rattle.ddf_data_group.proofs.Lessened.{extent_same, slot_lost}
use Rattle.ddf_data_group.proofs.Parts.{of_part}

-- the elements that stand at one place
pub element_less : (befores afters : List (Option ElementValue)) → AreLessParts befores afters → (k : ℕ) (one other : ElementValue) → slice_get befores k ≡ Some (Some one) → slice_get afters k ≡ Some (Some other)
    → IsLessElement one other
element_less [] [] less k one other a b = absurd (cc)
element_less [] (y ∷ ys) less k one other a b = absurd less
element_less (x ∷ xs) [] less k one other a b = absurd less
element_less (None ∷ xs) (y ∷ ys) less zero one other a b = absurd (cc)
element_less (Some x ∷ xs) (None ∷ ys) less zero one other a b = absurd less.0
element_less (Some x ∷ xs) (Some y ∷ ys) less zero one other a b =
    let first : x ≡ one = cc in
    let second : y ≡ other = cc in
    subst (λ (z : ElementValue). IsLessElement z other) first (subst (IsLessElement x) second less.0)
element_less (x ∷ xs) (y ∷ ys) less (suc k) one other a b = element_less xs ys less.1 k one other a b

module _ (seats fewer : List Seat) (few : AreFewer seats fewer) (blocks blocks' : ℕ) (same_blocks : blocks' ≡ blocks) where
  place_rows : (before after : Position) → IsLessPosition before after → HasFewerRows (place_of seats blocks before) (place_of fewer blocks' after)
  place_rows before after less =
      ⊎_elim (λ out. inl out.1)
      (λ same.
      ⊎_elim (λ none. inl none)
      (λ same_row.
      let one = extent_same seats fewer few blocks blocks' before after same_blocks same.1 same.2 in
      ⊎_elim (λ stays. inr (inr (inr ((same.0, same.2, ap (seat_slot fewer) one ∙ stays), same_row))))
      (λ none. inr (inr (inl (ap (seat_slot fewer) one ∙ none)))) (slot_lost seats fewer few (extent blocks before)))
      same.3)
      less

  places_rows : (befores afters : List Position) → AreLessPositions befores afters → (j : ℕ) (was place : Place) → slice_get (map (place_of seats blocks) befores) j ≡ Some was
      → slice_get (map (place_of fewer blocks') afters) j ≡ Some place → HasFewerRows was place
  places_rows [] [] less j was place a b = absurd (cc)
  places_rows [] (y ∷ ys) less j was place a b = absurd less
  places_rows (x ∷ xs) [] less j was place a b = absurd less
  places_rows (x ∷ xs) (y ∷ ys) less zero was place a b =
      let first : place_of seats blocks x ≡ was = cc in
      let second : place_of fewer blocks' y ≡ place = cc in
      subst (λ (z : Place). HasFewerRows z place) first (subst (HasFewerRows (place_of seats blocks x)) second (place_rows x y less.0))
  places_rows (x ∷ xs) (y ∷ ys) less (suc j) was place a b = places_rows xs ys less.1 j was place a b

pub rows_left : (seats fewer : List Seat) → AreFewer seats fewer → (before after : Array) (old v : Volume) → AreLessParts before.elements after.elements → IsOver seats before old → IsOver fewer after v → LeavesRows old v
rows_left seats fewer few before after old v less old_over over k j one other was place one_at other_at was_at place_at =
    let from = of_part seats before old old_over k one one_at in
    let to = of_part fewer after v over k other other_at in
    let element = element_less before.elements after.elements less k from.element to.element from.is_element to.is_element in
    places_rows seats fewer few from.element.blocks to.element.blocks element.same_blocks from.element.positions to.element.positions element.less j was place
    (ap (λ (l : List Place). slice_get l j) (sym from.places_are) ∙ was_at) (ap (λ (l : List Place). slice_get l j) (sym to.places_are) ∙ place_at)
