-- The elements of a view and the spots of its blocks.
use Rattle.std.proofs.Common.{◌≡◌, ◌∙◌, ℕ, ◌*◌, ◌<◌, ◌≤◌, List, [], ◌∷◌, ◌++◌, true, false, Option, Some, None, refl, sym, ap, subst, arith, slice_get, length, zero, suc, append-nil}
use Rattle.std.specs.Prelude.{map, slice_index_or, if◌then◌else◌}
use Rattle.std.specs.List.{range_with_len, flat_map}
use Rattle.std.proofs.lemmas.Option.{slice_get_within}
use Rattle.std.proofs.lemmas.List.{map-append}
use Rattle.std.proofs.lemmas.List.Folds.{flat_map-map}
use Rattle.ddf_primary.specs.Cells.{cells, unit_of, rows_of}
use Rattle.ddf_primary.proofs.ShapeFacts.{rows_fit}
use Rattle.ddf_secondary.specs.declared.element.ElementSize.{ElementSize}
use Rattle.ddf_secondary.specs.declared.level.SecondaryLevel.{SecondaryLevel}
use Rattle.ddf_secondary.specs.declared.level.SecondaryLevel.TheVariants.{Striped, Mirrored, Concatenated, Spanned}
use Rattle.ddf_secondary.specs.declared.spot.Spot.{Spot}
use Rattle.ddf_secondary.specs.Spots as spots_of
use Rattle.ddf_secondary.specs.Spots.{spots, Holds, HoldsBy, carried}
use Rattle.ddf_secondary.proofs.SpotFacts.{spot_facts, carried_le}
use Rattle.ddf_array.specs.declared.part.Part.{Part}
use Rattle.ddf_array.specs.Volume.{Volume, IsVolume, size_of}
use Rattle.ddf_array.specs.Cells.{spots_like, elements_like, block_spots, is_in_every}
use Rattle.ddf_array.specs.Sources.{at_spot, at_element}

-- ---- a block of an element lies below its capacity

size_at : (parts : List Part) (element : ℕ) (part : Part) (default : ElementSize) → slice_get parts element ≡ Some part → slice_index_or (map size_of parts) element default ≡ size_of part
size_at [] element part default at = absurd (cc)
size_at (p ∷ parts) zero part default at = let same : p ≡ part = cc in ap size_of same
size_at (p ∷ parts) (suc element) part default at = size_at parts element part default at

length-map-parts : (parts : List Part) → length (map size_of parts) ≡ length parts
length-map-parts [] = refl
length-map-parts (p ∷ parts) = ap suc (length-map-parts parts)

module _ (v : Volume) (known : IsVolume v) where
  size_is : (element : ℕ) (part : Part) → slice_get v.parts element ≡ Some part → spots_of.size_of v.tiers.sizes element ≡ size_of part
  size_is element part at = ap (λ (l : List ElementSize). spots_of.size_of l element) known.has_sizes ∙ size_at v.parts element part _ at

  -- a block that an element holds lies below the element's capacity
  pub below_capacity : (block element inner : ℕ) (part : Part) → Holds v.tiers (record { element = element; block = inner }) block → slice_get v.parts element ≡ Some part → inner < length (cells part.shape)
  below_capacity block element inner part holds at =
      let facts = spot_facts v.tiers known.array_is in
      let spot : Spot = record { element = element; block = inner } in
      let size = size_is element part at in
      let rows : unit_of part.shape * rows_of part.shape ≤ length (cells part.shape) = rows_fit part.shape (known.are_parts element part at).shape_is in
      let fits = subst (λ (s : ElementSize). s.unit * s.rows ≤ s.capacity) (sym size) rows in
      let carried = carried_le v.tiers element known.array_is (facts.element_within spot block holds) fits in
      let most : (spots_of.size_of v.tiers.sizes element).capacity ≡ length (cells part.shape) = ap (λ (s : ElementSize). s.capacity) size in
      omega (arith, facts.block_within spot block holds, carried, most)

  -- the number of elements
  pub parts_count : length v.tiers.sizes ≡ length v.parts
  parts_count = ap length known.has_sizes ∙ length-map-parts v.parts

  pub spot_below : (block : ℕ) (spot : Spot) (part : Part) → slice_get (spots v.tiers) block ≡ Some spot → slice_get v.parts spot.element ≡ Some part → spot.block < length (cells part.shape)
  spot_below block spot part at there = below_capacity block spot.element spot.block part ((spot_facts v.tiers known.array_is).named spot block at) there

mirrored_holds : (level : SecondaryLevel) (sizes : List ElementSize) (items : List Spot) (block element : ℕ) (spot : Spot) → is_in_every level ≡ true
    → HoldsBy level sizes items spot block → element < length sizes → HoldsBy level sizes items (record { element = element; block = spot.block }) block
mirrored_holds Striped sizes items block element spot is holds below = absurd (cc)
mirrored_holds Mirrored sizes items block element spot is holds below = (below, holds.1)
mirrored_holds Concatenated sizes items block element spot is holds below = absurd (cc)
mirrored_holds Spanned sizes items block element spot is holds below = absurd (cc)

-- where they are mirrored, each element holds the block at that number
pub every_below : (v : Volume) → IsVolume v → (block element : ℕ) (spot : Spot) (part : Part) → is_in_every v.tiers.level ≡ true
    → slice_get (spots v.tiers) block ≡ Some spot → slice_get v.parts element ≡ Some part → spot.block < length (cells part.shape)
every_below v known block element spot part is at there =
    let below : element < length v.tiers.sizes = omega (arith, parts_count v known, slice_get_within v.parts element part there) in
    below_capacity v known block element spot.block part
    (mirrored_holds v.tiers.level v.tiers.sizes (spots v.tiers) block element spot is ((spot_facts v.tiers known.array_is).named spot block at) below) there

-- ---- spot by spot

map-flat : {A B X : Type 0} (g : A → B) (f : X → List A) (xs : List X) → map g (flat_map f xs) ≡ flat_map (λ x. map g (f x)) xs
map-flat g f [] = refl
map-flat g f (x ∷ xs) = map-append g (f x) (flat_map f xs) ∙ ap (λ l. map g (f x) ++ l) (map-flat g f xs)

elements_every : (level : SecondaryLevel) (count element : ℕ) → is_in_every level ≡ true → elements_like level count element ≡ range_with_len 0 count
elements_every level count element is = ap (λ b. if b then range_with_len 0 count else element ∷ []) is

elements_one : (level : SecondaryLevel) (count element : ℕ) → is_in_every level ≡ false → elements_like level count element ≡ element ∷ []
elements_one level count element is = ap (λ b. if b then range_with_len 0 count else element ∷ []) is

module _ {A B : Type 0} (v : Volume) (g : A → B) (of_element : Part → ℕ → List A) (block : ℕ) (spot : Spot) (at : slice_get (spots v.tiers) block ≡ Some spot) where
  spots_are : block_spots v block ≡ spots_like v.tiers.level (length v.parts) spot
  spots_are = ap (λ (found : Option Spot). elim found [ None ↦ [] | Some spot ↦ spots_like v.tiers.level (length v.parts) spot ]) at

  along : (elements : List ℕ) → elements_like v.tiers.level (length v.parts) spot.element ≡ elements
      → map g (flat_map (at_spot v.parts of_element) (block_spots v block)) ≡ flat_map (λ element. map g (at_element v.parts of_element spot.block element)) elements
  along elements are =
      ap (λ l. map g (flat_map (at_spot v.parts of_element) l)) (spots_are ∙ ap (map (λ element. record { element = element; block = spot.block })) are)
      ∙ ap (map g) (flat_map-map (at_spot v.parts of_element) (λ element. record { element = element; block = spot.block }) elements)
      ∙ map-flat g (at_element v.parts of_element spot.block) elements

  pub along_every : is_in_every v.tiers.level ≡ true
      → map g (flat_map (at_spot v.parts of_element) (block_spots v block)) ≡ flat_map (λ element. map g (at_element v.parts of_element spot.block element)) (range_with_len 0 (length v.parts))
  along_every is = along (range_with_len 0 (length v.parts)) (elements_every v.tiers.level (length v.parts) spot.element is)

  pub along_one : is_in_every v.tiers.level ≡ false → map g (flat_map (at_spot v.parts of_element) (block_spots v block)) ≡ map g (at_element v.parts of_element spot.block spot.element)
  along_one is =
      along (spot.element ∷ []) (elements_one v.tiers.level (length v.parts) spot.element is) ∙ append-nil (map g (at_element v.parts of_element spot.block spot.element))

pub at_found : {X : Type 0} (parts : List Part) (of_element : Part → ℕ → List X) (block element : ℕ) (part : Part) → slice_get parts element ≡ Some part → at_element parts of_element block element ≡ of_element part block
at_found parts of_element block element part at = ap (λ (found : Option Part). elim found [ None ↦ [] | Some part ↦ of_element part block ]) at

pub at_none : {X : Type 0} (parts : List Part) (of_element : Part → ℕ → List X) (block element : ℕ) → slice_get parts element ≡ None → at_element parts of_element block element ≡ []
at_none parts of_element block element at = ap (λ (found : Option Part). elim found [ None ↦ [] | Some part ↦ of_element part block ]) at

module _ {A : Type 0} (v : Volume) (of_element : Part → ℕ → List A) (block : ℕ) (spot : Spot) (at : slice_get (spots v.tiers) block ≡ Some spot) where
  pub spread_every : is_in_every v.tiers.level ≡ true
      → flat_map (at_spot v.parts of_element) (block_spots v block) ≡ flat_map (at_element v.parts of_element spot.block) (range_with_len 0 (length v.parts))
  spread_every is =
      ap (λ l. flat_map (at_spot v.parts of_element) l) (spots_are {A = A} {B = A} v (λ x. x) of_element block spot at ∙ ap (map (λ element. record { element = element; block = spot.block })) (elements_every v.tiers.level (length v.parts) spot.element is))
      ∙ flat_map-map (at_spot v.parts of_element) (λ element. record { element = element; block = spot.block }) (range_with_len 0 (length v.parts))
