-- The available cells of a block are those on its positions.
use Rattle.std.proofs.Common.{◌≡◌, ◌∙◌, ℕ, zero, suc, ◌<◌, Bool, true, false, List, [], ◌∷◌, Option, Some, None, refl, sym, ap, subst, arith, map, length, slice_get, ◌||◌, ◌&&◌}
use Rattle.std.specs.Prelude.{◌==◌, option_and_then, if◌then◌else◌}
use Rattle.std.specs.List.{range_with_len, list_any}
use Rattle.std.proofs.lemmas.Bool.{eqb-true, eq-eqb}
use Rattle.std.proofs.lemmas.Option.{slice_get_within}
use Rattle.std.proofs.lemmas.Map.Keys.{any_passes_from_place}
use Rattle.ddf_lemmas.proofs.Lists.{found_passes, get_filter_map, in_map, range_at}
use Rattle.ddf_lemmas.proofs.Tests.{and_first, and_second}
use Rattle.ddf_primary.specs.Levels.{IsShape}
use Rattle.ddf_primary.specs.Cells as cells_of
use Rattle.ddf_primary.proofs.Copies.{copy_at, copy_is, holds_on, on_holds}
use Rattle.ddf_primary.proofs.ShapeFacts.{cell_facts}
use Rattle.ddf_secondary.specs.declared.level.SecondaryLevel.{SecondaryLevel}
use Rattle.ddf_secondary.specs.declared.level.SecondaryLevel.TheVariants.{Striped, Mirrored, Concatenated, Spanned}
use Rattle.ddf_secondary.specs.declared.spot.Spot.{Spot}
use Rattle.ddf_secondary.specs.Spots as spots_of
use Rattle.ddf_secondary.specs.Spots.{spots}
use Rattle.ddf_secondary.proofs.SpotFacts.{spot_facts}
use Rattle.ddf_array.specs.declared.part.Part.{Part}
use Rattle.ddf_array.specs.declared.site.Site.{Site}
use Rattle.ddf_array.specs.Places.{site_at}
use Rattle.ddf_array.specs.Volume.{Volume, IsVolume, capacity}
use Rattle.ddf_array.specs.Cells.{element_cells, elements_like, is_in_every, spots_like, block_spots}
use Rattle.ddf_array.specs.Sources.{at_spot, copies, element_copies}
use Rattle.ddf_array.specs.Rows.{block_at, holds}
use Rattle.ddf_array.proofs.Consistent.{at_part, position_within, to_flat, in_filter, in_flat}
use Rattle.ddf_array.proofs.Elements.{parts_count}
use Rattle.ddf_cells.specs.CellsOn.{cell_in, cell_of, cell_on}
use Rattle.ddf_cells.proofs.Items.{passing, finds}
use Rattle.ddf_cells.proofs.OnCells.{Sits, OnCell, on_cell, spot_of, in_every_holds, one_block}

-- ---- the places that are alike

-- a position of those that hold what one holds
like_position : (every : Bool) (members position : ℕ) (k other : ℕ) → slice_get (if every then range_with_len 0 members else position ∷ []) k ≡ Some other → (every || (position == other)) ≡ true
like_position true members position k other at = refl
like_position false members position zero other at = let same : position ≡ other = cc in eq-eqb position other same
like_position false members position (suc k) other at = absurd (cc)

at_like : (every : Bool) (count one other : ℕ) → (every || (one == other)) ≡ true → other < count → (k : ℕ) × (slice_get (if every then range_with_len 0 count else one ∷ []) k ≡ Some other)
at_like true count one other is below = (other, range_at count other below)
at_like false count one other is below = (0, ap Some (eqb-true one other is))

-- an item of a list found by a key
some_of : {X Y : Type 0} (f : X → List Y) (found : Option X) (k : ℕ) (y : Y) → slice_get (elim found [ None ↦ [] | Some x ↦ f x ]) k ≡ Some y → (x : X) × (found ≡ Some x) × (slice_get (f x) k ≡ Some y)
some_of f None k y e = absurd (cc)
some_of f (Some x) k y e = (x, refl, e)

module _ (v : Volume) (known : IsVolume v) (block : ℕ) where
  -- ---- spots of a block

  pub record InSpot (spot : Spot) : Type 0 where
    pub first : Spot
    pub is_first : slice_get (spots v.tiers) block ≡ Some first
    pub same_block : spot.block ≡ first.block
    pub is_like : (is_in_every v.tiers.level || (first.element == spot.element)) ≡ true

  pub in_spots : (k : ℕ) (spot : Spot) → slice_get (block_spots v block) k ≡ Some spot → InSpot spot
  in_spots k spot at =
      let from = some_of (spots_like v.tiers.level (length v.parts)) (slice_get (spots v.tiers) block) k spot at in
      let like = in_map (λ element. spot_of element from.0.block) (elements_like v.tiers.level (length v.parts) from.0.element) k spot from.2 in
      let element_is : like.0 ≡ spot.element = ap (λ (s : Spot). s.element) like.2 in
      record {
        first = from.0;
        is_first = from.1;
        same_block = sym (ap (λ (s : Spot). s.block) like.2);
        is_like =
            subst (λ e. (is_in_every v.tiers.level || (from.0.element == e)) ≡ true) element_is
            (like_position (is_in_every v.tiers.level) (length v.parts) from.0.element k like.0 like.1);
      }

  spot_holds_by : (every : Bool) (first : Spot) (element : ℕ) → is_in_every v.tiers.level ≡ every → (every || (first.element == element)) ≡ true → element < length v.parts
      → slice_get (spots v.tiers) block ≡ Some first → spots_of.Holds v.tiers (spot_of element first.block) block
  spot_holds_by true first element is like below at =
      in_every_holds v.tiers.level v.tiers.sizes (spots v.tiers) block element first.element first.block is ((spot_facts v.tiers known.array_is).named first block at) (omega (arith, below, parts_count v known))
  spot_holds_by false first element is like below at =
      subst (λ e. spots_of.Holds v.tiers (spot_of e first.block) block) (eqb-true first.element element like) ((spot_facts v.tiers known.array_is).named first block at)

  pub spot_holds : (spot : Spot) → InSpot spot → spot.element < length v.parts → spots_of.Holds v.tiers (spot_of spot.element spot.block) block
  spot_holds spot in_spot below =
      subst (λ b. spots_of.Holds v.tiers (spot_of spot.element b) block) (sym in_spot.same_block)
      (spot_holds_by (is_in_every v.tiers.level) in_spot.first spot.element refl in_spot.is_like below in_spot.is_first)

  -- a spot that holds a block is one of its spots
  first_by : (level : SecondaryLevel) (element inner : ℕ) → spots_of.HoldsBy level v.tiers.sizes (spots v.tiers) (spot_of element inner) block
      → (first : Spot) × (slice_get (spots v.tiers) block ≡ Some first) × (first.block ≡ inner) × ((is_in_every level || (first.element == element)) ≡ true)
  first_by Striped element inner holds = (spot_of element inner, holds, refl, eq-eqb element element refl)
  first_by Mirrored element inner holds = (spot_of 0 inner, holds.1, refl, refl)
  first_by Concatenated element inner holds = (spot_of element inner, holds, refl, eq-eqb element element refl)
  first_by Spanned element inner holds = (spot_of element inner, holds, refl, eq-eqb element element refl)

  pub at_spots : (element inner : ℕ) → spots_of.Holds v.tiers (spot_of element inner) block → element < length v.parts → (k : ℕ) × (slice_get (block_spots v block) k ≡ Some (spot_of element inner))
  at_spots element inner holds below =
      let first = first_by v.tiers.level element inner holds in
      let like = at_like (is_in_every v.tiers.level) (length v.parts) first.0.element element first.3 below in
      let here : slice_get (spots_like v.tiers.level (length v.parts) first.0) like.0 ≡ Some (spot_of element first.0.block) = map_at (λ e. spot_of e first.0.block) (elements_like v.tiers.level (length v.parts) first.0.element) like.0 element like.1 in (
        like.0,
        ap (λ (found : Option Spot). slice_get (elim found [ None ↦ [] | Some spot ↦ spots_like v.tiers.level (length v.parts) spot ]) like.0) first.1
            ∙ here ∙ ap (λ b. Some (spot_of element b)) first.2,
      )
    where
      map_at : {X Y : Type 0} (f : X → Y) (xs : List X) (k : ℕ) (x : X) → slice_get xs k ≡ Some x → slice_get (map f xs) k ≡ Some (f x)
      map_at f [] k x e = absurd (cc)
      map_at f (y ∷ xs) zero x e = let same : y ≡ x = cc in ap (λ z. Some (f z)) same
      map_at f (y ∷ xs) (suc k) x e = map_at f xs k x e

-- ---- cells of a block of an element

module _ (part : Part) (inner : ℕ) where
  pub cell_within : IsShape part.shape → (k : ℕ) (cell : ℕ × ℕ) → slice_get (element_cells part.shape inner) k ≡ Some cell → cell.0 < part.shape.members
  cell_within shape k cell at = (copy_is part.shape inner k cell at).0

  -- a member that holds a block is one of its cells
  pub at_cells : IsShape part.shape → (position sector : ℕ) → cells_of.Holds part.shape position sector inner → (k : ℕ) × (slice_get (element_cells part.shape inner) k ≡ Some (position, sector))
  at_cells shape position sector holds =
      copy_at part.shape inner position sector ((cell_facts part.shape shape).member_within position sector inner holds) (holds_on part.shape shape position sector inner holds)

-- ---- an available cell is on a position, and the other way round

pub record OnPosition (v : Volume) (block : ℕ) (one : Site) : Type 0 where
  pub element : ℕ
  pub position : ℕ
  pub part : Part
  pub is_part : slice_get v.parts element ≡ Some part
  pub position_below : position < length part.places
  pub on : cell_on v element position block ≡ Some one

module _ (v : Volume) (known : IsVolume v) (block : ℕ) where
  found_at : (spot : Spot) (j k : ℕ) (one : Site) (found : Option Part) → slice_get v.parts spot.element ≡ found → slice_get (block_spots v block) k ≡ Some spot
      → slice_get (elim found [ None ↦ [] | Some part ↦ element_copies part spot.block ]) j ≡ Some one → OnPosition v block one
  found_at spot j k one None is at e = absurd (cc)
  found_at spot j k one (Some part) is at e =
      let from = in_filter (λ (cell : ℕ × ℕ). site_at part.places cell.0 cell.1) (element_cells part.shape spot.block) j one e in
      let cell = copy_is part.shape spot.block from.at from.item from.is_at in
      let in_spot = in_spots v known block k spot at in
      let inside : cell_in part from.item.0 spot.block ≡ Some one = ap (option_and_then (site_at part.places from.item.0)) cell.1 ∙ from.gives in
      let here : cell_of (slice_get v.parts spot.element) from.item.0 in_spot.first.block ≡ Some one =
      ap (λ p. cell_of p from.item.0 in_spot.first.block) is ∙ ap (cell_in part from.item.0) (sym in_spot.same_block) ∙ inside in
      record {
        element = spot.element;
        position = from.item.0;
        part = part;
        is_part = is;
        position_below = position_within part.places from.item.0 from.item.1 one from.gives;
        on =
            ap
            (λ (s : Option Spot). elim s [ None ↦ None | Some s ↦ if is_in_every v.tiers.level || s.element == spot.element then cell_of (slice_get v.parts spot.element) from.item.0 s.block else None ])
            in_spot.is_first
            ∙ ap (λ b. if b then cell_of (slice_get v.parts spot.element) from.item.0 in_spot.first.block else None) in_spot.is_like
            ∙ here;
      }

  pub on_position : (i : ℕ) (one : Site) → slice_get (copies v block) i ≡ Some one → OnPosition v block one
  on_position i one e =
      let from = in_flat (at_spot v.parts element_copies) (block_spots v block) i one e in
      found_at from.item from.inner from.at one (slice_get v.parts from.item.element) refl from.is_at from.is_inner

  pub in_copies : (element position : ℕ) (one : Site) → OnCell v element position block one → (i : ℕ) × (slice_get (copies v block) i ≡ Some one)
  in_copies element position one cell =
      let part = cell.sits.part in
      let inner = cell.sits.inner in
      let spot = at_spots v known block element inner cell.sits.in_element (slice_get_within v.parts element part cell.sits.is_part) in
      let here = at_cells part inner (known.are_parts element part cell.sits.is_part).shape_is position cell.sector cell.sits.on_position in
      let inside = get_filter_map (λ (c : ℕ × ℕ). site_at part.places c.0 c.1) (element_cells part.shape inner) here.0 (position, cell.sector) one here.1 cell.is_there in
      to_flat (at_spot v.parts element_copies) (block_spots v block) spot.0 inside.0 (spot_of element inner) one spot.1
      (ap (λ (l : List Site). slice_get l inside.0) (at_part v.parts element_copies (spot_of element inner) part cell.sits.is_part) ∙ inside.1)

  pub a_copy : (element position : ℕ) (one : Site) → cell_on v element position block ≡ Some one → (i : ℕ) × (slice_get (copies v block) i ≡ Some one)
  a_copy element position one at = in_copies element position one (on_cell v known element position block one at)

-- ---- the block that a position holds

module _ (v : Volume) (known : IsVolume v) (element position sector : ℕ) where
  abbrev in_part : Spot → Option Part → Bool
  in_part spot found =
      elim found [
        | None ↦ false
        | Some part ↦ list_any (λ (cell : ℕ × ℕ). cell.0 == position && cell.1 == sector) (element_cells part.shape spot.block)
      ]

  abbrev in_spot : Spot → Bool
  in_spot spot = spot.element == element && in_part spot (slice_get v.parts element)

  and_both : (a b : Bool) → a ≡ true → b ≡ true → (a && b) ≡ true
  and_both true b e f = f
  and_both false b e f = e

  sits_by : (block : ℕ) (spot : Spot) (k : ℕ) (found : Option Part) → slice_get v.parts element ≡ found → slice_get (block_spots v block) k ≡ Some spot → spot.element ≡ element
      → in_part spot found ≡ true → Sits v element position sector block
  sits_by block spot k None is at here inside = absurd (cc)
  sits_by block spot k (Some part) is at here inside =
      let cell = passing (λ (cell : ℕ × ℕ). cell.0 == position && cell.1 == sector) (element_cells part.shape spot.block) inside in
      let p_is : cell.item.0 ≡ position = eqb-true cell.item.0 position (and_first (cell.item.0 == position) (cell.item.1 == sector) cell.passes) in
      let x_is : cell.item.1 ≡ sector = eqb-true cell.item.1 sector (and_second (cell.item.0 == position) (cell.item.1 == sector) cell.passes) in
      let own = on_holds part.shape (known.are_parts element part is).shape_is cell.item.0 cell.item.1 spot.block (copy_is part.shape spot.block cell.at cell.item cell.is_at).1 in
      let holds = spot_holds v known block spot (in_spots v known block k spot at) (omega (arith, here, slice_get_within v.parts element part is)) in
      record {
        part = part;
        is_part = is;
        inner = spot.block;
        in_element = subst (λ e. spots_of.Holds v.tiers (spot_of e spot.block) block) here holds;
        on_position = subst (λ x. cells_of.Holds part.shape position x spot.block) x_is (subst (λ p. cells_of.Holds part.shape p cell.item.1 spot.block) p_is own);
      }

  pub holds_sits : (block : ℕ) → holds v element position sector block ≡ true → Sits v element position sector block
  holds_sits block is =
      let spot = passing in_spot (block_spots v block) is in
      let here : spot.item.element ≡ element = eqb-true spot.item.element element (and_first (spot.item.element == element) (in_part spot.item (slice_get v.parts element)) spot.passes) in
      sits_by block spot.item spot.at (slice_get v.parts element) refl spot.is_at here (and_second (spot.item.element == element) (in_part spot.item (slice_get v.parts element)) spot.passes)

  pub sits_holds : (block : ℕ) → Sits v element position sector block → holds v element position sector block ≡ true
  sits_holds block sits =
      let part = sits.part in
      let inner = sits.inner in
      let spot = at_spots v known block element inner sits.in_element (slice_get_within v.parts element part sits.is_part) in
      let here = at_cells part inner (known.are_parts element part sits.is_part).shape_is position sector sits.on_position in
      let inside : list_any (λ (cell : ℕ × ℕ). cell.0 == position && cell.1 == sector) (element_cells part.shape inner) ≡ true =
      any_passes_from_place (λ (cell : ℕ × ℕ). cell.0 == position && cell.1 == sector) (element_cells part.shape inner) here.0 (position, sector) here.1
      (and_both (position == position) (sector == sector) (eq-eqb position position refl) (eq-eqb sector sector refl)) in
      any_passes_from_place in_spot (block_spots v block) spot.0 (spot_of element inner) spot.1
      (and_both (element == element) (in_part (spot_of element inner) (slice_get v.parts element)) (eq-eqb element element refl) (ap (in_part (spot_of element inner)) sits.is_part ∙ inside))

  pub block_at_sits : (block : ℕ) → block_at v element position sector ≡ Some block → Sits v element position sector block
  block_at_sits block at = holds_sits block (found_passes (holds v element position sector) (range_with_len 0 (capacity v)) block at)

  spot_below : (level : SecondaryLevel) (inner block : ℕ) → spots_of.HoldsBy level v.tiers.sizes (spots v.tiers) (spot_of element inner) block → block < length (spots v.tiers)
  spot_below Striped inner block holds = slice_get_within (spots v.tiers) block (spot_of element inner) holds
  spot_below Mirrored inner block holds = slice_get_within (spots v.tiers) block (spot_of 0 inner) holds.1
  spot_below Concatenated inner block holds = slice_get_within (spots v.tiers) block (spot_of element inner) holds
  spot_below Spanned inner block holds = slice_get_within (spots v.tiers) block (spot_of element inner) holds

  pub sits_below : (block : ℕ) → Sits v element position sector block → block < capacity v
  sits_below block sits = spot_below v.tiers.level sits.inner block sits.in_element

  -- a block that sits there is the one
  pub sits_block_at : (block : ℕ) → Sits v element position sector block → block_at v element position sector ≡ Some block
  sits_block_at block sits =
      finds (holds v element position sector) (range_with_len 0 (capacity v)) block block (range_at (capacity v) block (sits_below block sits)) (sits_holds block sits)
      (λ other is. one_block v known element position sector other block (holds_sits other is) sits)
