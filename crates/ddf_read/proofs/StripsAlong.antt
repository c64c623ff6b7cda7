-- The blocks of an array that are left of a strip lie side by side.
use Rattle.std.proofs.Common.{◌≡◌, ◌∙◌, ℕ, ◌+◌, ◌%◌, ◌<◌, ◌≤◌, Bool, true, List, [], ◌∷◌, false, Option, Some, None, length, slice_get, map, refl, sym, ap, subst, arith}
use Rattle.std.specs.Prelude.{◌==◌, ◌||◌, if◌then◌else◌}
use Rattle.std.specs.List.{range_with_len, flat_map}
use Rattle.std.specs.Option.{option_map}
use Rattle.std.proofs.lemmas.Bool.{eqb-true}
use Rattle.std.proofs.lemmas.Option.{slice_get-map, get_or_from_slice_get}
use Rattle.ddf_lemmas.proofs.Lists.{some_at_place}
use Rattle.ddf_primary.specs.Cells.{cells, unit_of}
use Rattle.ddf_primary.specs.Copies.{sector_on}
use Rattle.ddf_secondary.specs.declared.element.ElementSize.{ElementSize}
use Rattle.ddf_secondary.specs.declared.spot.Spot.{Spot}
use Rattle.ddf_secondary.specs.Spots as secondary
use Rattle.ddf_secondary.specs.Spots.{spots}
use Rattle.ddf_secondary.proofs.SpotFacts.{spot_facts}
use Rattle.ddf_array.specs.declared.part.Part.{Part}
use Rattle.ddf_array.specs.Cells.{elements_like, block_spots, is_in_every}
use Rattle.ddf_array.specs.Sources.{element_copies, element_rows, at_spot}
use Rattle.ddf_array.specs.Volume.{Volume, IsVolume, size_of, capacity}
use Rattle.ddf_array.proofs.Elements.{parts_count}
use Rattle.ddf_read.specs.Along.{further, LieAlong, IsAlong, IsAlongAt}
use Rattle.ddf_read.proofs.SourcesAlong.{copies_further, rows_further, AllMove, all_further_by}
use Rattle.ddf_read.proofs.SpotsAlong.{spot_on, spot_along}

-- fewer blocks
pub fewer_along : (part : Part) (block count fewer : ℕ) → fewer ≤ count → IsAlong part block count → IsAlong part block fewer
fewer_along part block count fewer le along = record {
  cells_lie = λ k member below. along.cells_lie k member (omega (arith, below, le));
  in_unit = omega (arith, le, along.in_unit);
  in_element = omega (arith, le, along.in_element);
}

module _ (v : Volume) (known : IsVolume v) (block : ℕ) (spot : Spot) (there : slice_get (spots v.tiers) block ≡ Some spot) (count : ℕ) (inside : block + count ≤ capacity v) where
  -- the element of the block
  own : (part : Part) × (slice_get v.parts spot.element ≡ Some part)
  own =
      let facts = spot_facts v.tiers known.array_is in
      let within = facts.element_within spot block (facts.named spot block there) in
      some_at_place v.parts spot.element (omega (arith, within, parts_count v known))

  size_is : (part : Part) → slice_get v.parts spot.element ≡ Some part → secondary.size_of v.tiers.sizes spot.element ≡ size_of part
  size_is part at =
      ap (λ (sizes : List ElementSize). secondary.size_of sizes spot.element) known.has_sizes
      ∙ get_or_from_slice_get (map size_of v.parts) spot.element (size_of part) _ (slice_get-map size_of v.parts spot.element ∙ ap (option_map size_of) at)

  module _ (k : ℕ) (below : k < count) (along : IsAlongAt v spot.element spot.block count) where
    later : slice_get (spots v.tiers) (block + k) ≡ Some (spot_on spot k)
    later =
        let mine = along own.0 own.1 in
        let size = size_is own.0 own.1 in
        let unit : (secondary.size_of v.tiers.sizes spot.element).unit ≡ unit_of own.0.shape = ap (λ (s : ElementSize). s.unit) size in
        let room : (secondary.size_of v.tiers.sizes spot.element).capacity ≡ length (cells own.0.shape) = ap (λ (s : ElementSize). s.capacity) size in
        spot_along v.tiers known.array_is block k spot there (omega (arith, below, inside))
        (subst (λ (u : ℕ). spot.block % u + k < u) (sym unit) (omega (arith, mine.in_unit, below)))
        (omega (arith, room, mine.in_element, below))

  -- an element's blocks
  module _ {X : Type 0} (of_element : Part → ℕ → List X) (g : ℕ → X → X)
      (moves : (part : Part) (inner k : ℕ) → ((member : ℕ) → sector_on part.shape member (inner + k) ≡ option_map (λ sector. sector + k) (sector_on part.shape member inner))
      → of_element part (inner + k) ≡ map (g k) (of_element part inner)) where
    by_found : (k : ℕ) → k < count → (element : ℕ) (found : Option Part) → slice_get v.parts element ≡ found → IsAlongAt v element spot.block count
        → elim found [ None ↦ [] | Some part ↦ of_element part (spot.block + k) ] ≡ map (g k) (elim found [ None ↦ [] | Some part ↦ of_element part spot.block ])
    by_found k below element None e along = refl
    by_found k below element (Some part) e along =
        let mine = along part e in
        moves part spot.block k (λ member. mine.cells_lie k member below)

    every : (k : ℕ) → k < count → ((element : ℕ) → IsAlongAt v element spot.block count) → (elements : List ℕ) → AllMove v.parts of_element (g k) spot.block k elements
    every k below along [] = tt
    every k below along (element ∷ elements) = (by_found k below element (slice_get v.parts element) refl (along element), every k below along elements)

    in_every : (k : ℕ) → k < count → ((element : ℕ) → IsAlongAt v element spot.block count)
        → flat_map (at_spot v.parts of_element) (block_spots v (block + k)) ≡ map (g k) (flat_map (at_spot v.parts of_element) (block_spots v block))
    in_every k below along =
        all_further_by v of_element (g k) block k spot there (later k below (along spot.element)) (every k below along (elements_like v.tiers.level (length v.parts) spot.element))

    in_one : (k : ℕ) → k < count → is_in_every v.tiers.level ≡ false → IsAlongAt v spot.element spot.block count
        → flat_map (at_spot v.parts of_element) (block_spots v (block + k)) ≡ map (g k) (flat_map (at_spot v.parts of_element) (block_spots v block))
    in_one k below one along =
        all_further_by v of_element (g k) block k spot there (later k below along)
        (subst (AllMove v.parts of_element (g k) spot.block k) (sym (ap (λ b. if b then range_with_len 0 (length v.parts) else spot.element ∷ []) one))
        (by_found k below spot.element (slice_get v.parts spot.element) refl along, tt))

  same_spot : (other : Spot) → slice_get (spots v.tiers) block ≡ Some other → spot ≡ other
  same_spot other at = some_is (sym there ∙ at)
    where
      some_is : {a b : Spot} → Some a ≡ Some b → a ≡ b
      some_is e = cc

  spots_later : IsAlongAt v spot.element spot.block count → (k : ℕ) (other : Spot) → k < count → slice_get (spots v.tiers) block ≡ Some other → slice_get (spots v.tiers) (block + k) ≡ Some (spot_on other k)
  spots_later along k other below at = subst (λ (s : Spot). slice_get (spots v.tiers) (block + k) ≡ Some (spot_on s k)) (same_spot other at) (later k below along)

  of_one : (element : ℕ) (other : Spot) (every : Bool) → every ≡ false → slice_get (spots v.tiers) block ≡ Some other → (every || other.element == element) ≡ true
      → IsAlongAt v spot.element spot.block count → IsAlongAt v element other.block count
  of_one element other true is at like along = absurd (cc)
  of_one element other false is at like along =
      subst (λ (e : ℕ). IsAlongAt v e other.block count) (eqb-true other.element element like)
      (subst (λ (s : Spot). IsAlongAt v s.element s.block count) (same_spot other at) along)

  pub every_along : ((element : ℕ) → IsAlongAt v element spot.block count) → LieAlong v block count
  every_along along = record {
    spots_are = spots_later (along spot.element);
    cells_are = λ element other at like. subst (λ (s : Spot). IsAlongAt v element s.block count) (same_spot other at) (along element);
    copies_are = λ k below. in_every element_copies further copies_further k below along;
    rows_are = λ k below. in_every element_rows (λ n. map (further n)) rows_further k below along;
  }

  pub one_along : is_in_every v.tiers.level ≡ false → IsAlongAt v spot.element spot.block count → LieAlong v block count
  one_along one along = record {
    spots_are = spots_later along;
    cells_are = λ element other at like. of_one element other (is_in_every v.tiers.level) one at like along;
    copies_are = λ k below. in_one element_copies further copies_further k below one along;
    rows_are = λ k below. in_one element_rows (λ n. map (further n)) rows_further k below one along;
  }
