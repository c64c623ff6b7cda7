-- An array whose cells and rows agree is redundant, and the other way round.
use Rattle.std.proofs.Common.{◌≡◌, ◌∙◌, ⊎_elim, ℕ, zero, suc, ◌<◌, ◌≤◌, Bool, true, false, List, [], ◌∷◌, ◌++◌, Option, Some, None, refl, ap, arith, map, filter_map, length, slice_get}
use Rattle.std.specs.Prelude.{nat_le, option_map, option_and_then, if◌then◌else◌}
use Rattle.std.specs.List.{flat_map, cons_option}
use Rattle.std.proofs.lemmas.Option.{slice_get_within}
use Rattle.std.proofs.lemmas.List.{length-map}
use Rattle.ddf_lemmas.proofs.Lists.{few_places, first_get, get_filter_map, in_either, in_map, in_second, mapped_at, same_some_bytes}
use Rattle.ddf_bay.specs.Sectors.{Image}
use Rattle.ddf_primary.specs.Placement.{Placement}
use Rattle.ddf_primary.specs.Levels.{IsShape}
use Rattle.ddf_primary.specs.Cells.{depth_of}
use Rattle.ddf_primary.proofs.Copies.{copy_is, few_copies, on_holds}
use Rattle.ddf_primary.proofs.Needs.{parity_alone}
use Rattle.ddf_primary.proofs.ShapeFacts.{cell_facts}
use Rattle.ddf_secondary.specs.declared.spot.Spot.{Spot}
use Rattle.ddf_secondary.specs.Spots.{spots}
use Rattle.ddf_array.specs.declared.part.Part.{Part}
use Rattle.ddf_array.specs.declared.place.Place.{Place}
use Rattle.ddf_array.specs.declared.site.Site.{Site}
use Rattle.ddf_array.specs.Places.{site, site_at}
use Rattle.ddf_array.specs.Levels.{keeps_parity}
use Rattle.ddf_array.specs.Volume.{Volume, IsVolume}
use Rattle.ddf_array.specs.Cells.{element_cells, is_in_every, elements_like, spots_like, block_spots}
use Rattle.ddf_array.specs.Sources.{Source, copy, row, row_without, element_copies, element_rows, at_spot, copies, rows, every_source}
use Rattle.ddf_array.specs.Values.{bytes_at, sum_at, given, value}
use Rattle.ddf_array.specs.Within.{is_mirrored}
use Rattle.ddf_array.specs.Redundant.{IsRedundant, IsConsistent}
use Rattle.ddf_array.specs.Sound.{AreSectors}
use Rattle.ddf_array.proofs.RowSums.{cell_from_row}

-- ---- items of lists that are made of others

pub record FromFlat {X Y : Type 0} (f : X → List Y) (xs : List X) (y : Y) : Type 0 where
  pub at : ℕ
  pub item : X
  pub is_at : slice_get xs at ≡ Some item
  pub inner : ℕ
  pub is_inner : slice_get (f item) inner ≡ Some y

pub flat_later : {X Y : Type 0} (f : X → List Y) (x : X) (xs : List X) (y : Y) → FromFlat f xs y → FromFlat f (x ∷ xs) y
flat_later f x xs y from = record { at = suc from.at; item = from.item; is_at = from.is_at; inner = from.inner; is_inner = from.is_inner }

pub in_flat : {X Y : Type 0} (f : X → List Y) (xs : List X) (k : ℕ) (y : Y) → slice_get (flat_map f xs) k ≡ Some y → FromFlat f xs y
in_flat f [] k y e = absurd (cc)
in_flat f (x ∷ xs) k y e =
    ⊎_elim (λ front. record { at = 0; item = x; is_at = refl; inner = front.0; is_inner = front.1 })
    (λ back. flat_later f x xs y (in_flat f xs back.0 y back.1)) (in_either (f x) (flat_map f xs) k y e)

pub record FromFilter {X Y : Type 0} (f : X → Option Y) (xs : List X) (y : Y) : Type 0 where
  pub at : ℕ
  pub item : X
  pub is_at : slice_get xs at ≡ Some item
  pub gives : f item ≡ Some y

pub filter_later : {X Y : Type 0} (f : X → Option Y) (x : X) (xs : List X) (y : Y) → FromFilter f xs y → FromFilter f (x ∷ xs) y
filter_later f x xs y from = record { at = suc from.at; item = from.item; is_at = from.is_at; gives = from.gives }

pub in_filter_by : {X Y : Type 0} (f : X → Option Y) (x : X) (xs : List X) (k : ℕ) (y : Y) (o : Option Y) → f x ≡ o → slice_get (cons_option o (filter_map f xs)) k ≡ Some y
    → ((k : ℕ) → slice_get (filter_map f xs) k ≡ Some y → FromFilter f xs y) → FromFilter f (x ∷ xs) y
in_filter_by f x xs k y None is e rest = filter_later f x xs y (rest k e)
in_filter_by f x xs zero y (Some z) is e rest = let same : z ≡ y = cc in record { at = 0; item = x; is_at = refl; gives = is ∙ ap Some same }
in_filter_by f x xs (suc k) y (Some z) is e rest = filter_later f x xs y (rest k e)

pub in_filter : {X Y : Type 0} (f : X → Option Y) (xs : List X) (k : ℕ) (y : Y) → slice_get (filter_map f xs) k ≡ Some y → FromFilter f xs y
in_filter f [] k y e = absurd (cc)
in_filter f (x ∷ xs) k y e = in_filter_by f x xs k y (f x) refl e (λ j is. in_filter f xs j y is)

pub to_flat : {X Y : Type 0} (f : X → List Y) (xs : List X) (j i : ℕ) (x : X) (y : Y) → slice_get xs j ≡ Some x → slice_get (f x) i ≡ Some y → (k : ℕ) × (slice_get (flat_map f xs) k ≡ Some y)
to_flat f [] j i x y at inner = absurd (cc)
to_flat f (z ∷ xs) zero i x y at inner =
    let same : z ≡ x = cc in (i, first_get (f z) (flat_map f xs) i y (ap (λ w. slice_get (f w) i) same ∙ inner))
to_flat f (z ∷ xs) (suc j) i x y at inner = let rest = to_flat f xs j i x y at inner in in_second (f z) (flat_map f xs) rest.0 y rest.1

-- a list of one item at most
lone : {X : Type 0} (xs : List X) (k : ℕ) (x : X) → length xs ≤ 1 → slice_get xs k ≡ Some x → xs ≡ x ∷ []
lone [] k x le at = absurd (cc)
lone (y ∷ []) zero x le at = let same : y ≡ x = cc in ap (λ z. z ∷ []) same
lone (y ∷ []) (suc k) x le at = absurd (cc)
lone (y ∷ (z ∷ xs)) k x le at = absurd (omega arith)

-- ---- cells and spots

cell_depth : (shape : Placement) → IsShape shape → (block k : ℕ) (cell : ℕ × ℕ) → slice_get (element_cells shape block) k ≡ Some cell → cell.1 < depth_of shape
cell_depth shape known block k cell at =
    let facts = cell_facts shape known in
    facts.sector_within cell.0 cell.1 block (on_holds shape known cell.0 cell.1 block (copy_is shape block k cell at).1)

pub few_spots : (v : Volume) (block : ℕ) → is_mirrored v ≡ false → length (block_spots v block) ≤ 1
few_spots v block alone = by_spot (slice_get (spots v.tiers) block)
  where
    by_spot : (found : Option Spot) → length {A = Spot} (elim found [ None ↦ [] | Some spot ↦ spots_like v.tiers.level (length v.parts) spot ]) ≤ 1
    by_spot None = omega arith
    by_spot (Some spot) =
        let elements = elements_like v.tiers.level (length v.parts) spot.element in
        let few = few_places (length v.parts) spot.element (is_in_every v.tiers.level) (nat_le 2 (length v.parts)) refl alone in
        let place : ℕ → Spot = λ element. record { element = element; block = spot.block } in
        let same = length-map elements place in
        omega (arith, few, same)

pub position_within : (places : List Place) (position sector : ℕ) (own : Site) → site_at places position sector ≡ Some own → position < length places
position_within places position sector own e = by_place (slice_get places position) refl e
  where
    by_place : (found : Option Place) → slice_get places position ≡ found → option_and_then (λ place. site place sector) found ≡ Some own → position < length places
    by_place None is e = absurd (cc)
    by_place (Some place) is e = slice_get_within places position place is

pub at_part : {X : Type 0} (parts : List Part) (f : Part → ℕ → List X) (spot : Spot) (part : Part) → slice_get parts spot.element ≡ Some part → at_spot parts f spot ≡ f part spot.block
at_part parts f spot part at = ap (λ (found : Option Part). elim found [ None ↦ [] | Some part ↦ f part spot.block ]) at

-- ---- consistent, so redundant

module _ (v : Volume) (image : Image) (known : IsVolume v) (are : AreSectors image) (is : IsConsistent v image) (block : ℕ) where
  copy_by : (all : List Site) (k : ℕ) (one : Site) → copies v block ≡ all → slice_get all k ≡ Some one
      → option_map (given image) (slice_get (map copy all ++ map row (rows v block)) 0) ≡ Some (bytes_at image one)
  copy_by [] k one same at = absurd (cc)
  copy_by (first ∷ all) k one same at =
      ap Some (is.equal_copies block 0 k first one (ap (λ (l : List Site). slice_get l 0) same) (ap (λ (l : List Site). slice_get l k) same ∙ at))

  copy_value : (k : ℕ) (one : Site) → slice_get (copies v block) k ≡ Some one → value v image block ≡ Some (bytes_at image one)
  copy_value k one at = copy_by (copies v block) k one refl at

  module _ (j k : ℕ) (spot : Spot) (part : Part) (cell : ℕ × ℕ) (sites : List Site) (spot_at : slice_get (block_spots v block) j ≡ Some spot)
      (part_at : slice_get v.parts spot.element ≡ Some part) (parity : keeps_parity part.shape.layout ≡ true)
      (cell_at : slice_get (element_cells part.shape spot.block) k ≡ Some cell) (row_at : row_without part.places cell.0 cell.1 ≡ Some sites) where
    -- the block's own cell is available
    with_own : (own : Site) → site_at part.places cell.0 cell.1 ≡ Some own → value v image block ≡ Some (sum_at image sites)
    with_own own own_at =
        let inner = get_filter_map (λ (c : ℕ × ℕ). site_at part.places c.0 c.1) (element_cells part.shape spot.block) k cell own cell_at own_at in
        let among = to_flat (at_spot v.parts element_copies) (block_spots v block) j inner.0 spot own spot_at (ap (λ (l : List Site). slice_get l inner.0) (at_part v.parts element_copies spot part part_at) ∙ inner.1) in
        let depth = cell_depth part.shape (known.are_parts spot.element part part_at).shape_is spot.block k cell cell_at in
        copy_value among.0 own among.1
        ∙ ap Some (cell_from_row image are part cell.0 cell.1 own sites (position_within part.places cell.0 cell.1 own own_at) (λ all whole. is.sum_to_zero spot.element cell.1 part all part_at parity depth whole) own_at row_at)

    -- it isn't, and the block has no other
    without_own : is_mirrored v ≡ false → site_at part.places cell.0 cell.1 ≡ None → value v image block ≡ Some (sum_at image sites)
    without_own alone own_at =
        let spots_are = lone (block_spots v block) j spot (few_spots v block alone) spot_at in
        let cells_are = lone (element_cells part.shape spot.block) k cell (few_copies part.shape spot.block (parity_alone part.shape.layout parity)) cell_at in
        let no_copies : copies v block ≡ [] =
        ap (flat_map (at_spot v.parts element_copies)) spots_are ∙ ap (λ (l : List Site). l ++ []) (at_part v.parts element_copies spot part part_at)
        ∙ ap (λ (l : List (ℕ × ℕ)). filter_map (λ (c : ℕ × ℕ). site_at part.places c.0 c.1) l ++ []) cells_are
        ∙ ap (λ (o : Option Site). cons_option o [] ++ []) own_at in
        let one_row : rows v block ≡ sites ∷ [] =
        ap (flat_map (at_spot v.parts element_rows)) spots_are ∙ ap (λ (l : List (List Site)). l ++ []) (at_part v.parts element_rows spot part part_at)
        ∙ ap (λ b. (if b then filter_map (λ (c : ℕ × ℕ). row_without part.places c.0 c.1) (element_cells part.shape spot.block) else []) ++ []) parity
        ∙ ap (λ (l : List (ℕ × ℕ)). filter_map (λ (c : ℕ × ℕ). row_without part.places c.0 c.1) l ++ []) cells_are
        ∙ ap (λ (o : Option (List Site)). cons_option o [] ++ []) row_at in
        ap (λ (l : List Site). option_map (given image) (slice_get (map copy l ++ map row (rows v block)) 0)) no_copies
        ∙ ap (λ (l : List (List Site)). option_map (given image) (slice_get (map row l) 0)) one_row

    by_mirrored : (b : Bool) → is_mirrored v ≡ b → site_at part.places cell.0 cell.1 ≡ None → value v image block ≡ Some (sum_at image sites)
    by_mirrored true mirrored own_at = is.mirrored_rows mirrored block j k spot part cell sites spot_at part_at parity cell_at own_at row_at
    by_mirrored false alone own_at = without_own alone own_at

    by_own : (o : Option Site) → site_at part.places cell.0 cell.1 ≡ o → value v image block ≡ Some (sum_at image sites)
    by_own (Some own) own_at = with_own own own_at
    by_own None own_at = by_mirrored (is_mirrored v) refl own_at

  by_parity : (b : Bool) (j i : ℕ) (spot : Spot) (part : Part) (sites : List Site) → slice_get (block_spots v block) j ≡ Some spot → slice_get v.parts spot.element ≡ Some part
      → keeps_parity part.shape.layout ≡ b
      → slice_get (if b then filter_map (λ (c : ℕ × ℕ). row_without part.places c.0 c.1) (element_cells part.shape spot.block) else []) i ≡ Some sites
      → value v image block ≡ Some (sum_at image sites)
  by_parity true j i spot part sites spot_at part_at parity e =
      let from = in_filter (λ (c : ℕ × ℕ). row_without part.places c.0 c.1) (element_cells part.shape spot.block) i sites e in
      by_own j from.at spot part from.item sites spot_at part_at parity from.is_at from.gives (site_at part.places from.item.0 from.item.1) refl
  by_parity false j i spot part sites spot_at part_at parity e = absurd (cc)

  by_part : (found : Option Part) (j i : ℕ) (spot : Spot) (sites : List Site) → slice_get (block_spots v block) j ≡ Some spot → slice_get v.parts spot.element ≡ found
      → slice_get (elim found [ None ↦ [] | Some part ↦ element_rows part spot.block ]) i ≡ Some sites → value v image block ≡ Some (sum_at image sites)
  by_part None j i spot sites spot_at part_at e = absurd (cc)
  by_part (Some part) j i spot sites spot_at part_at e = by_parity (keeps_parity part.shape.layout) j i spot part sites spot_at part_at refl e

  row_value : (k : ℕ) (sites : List Site) → slice_get (rows v block) k ≡ Some sites → value v image block ≡ Some (sum_at image sites)
  row_value k sites at =
      let from = in_flat (at_spot v.parts element_rows) (block_spots v block) k sites at in
      by_part (slice_get v.parts from.item.element) from.at from.inner from.item sites from.is_at refl from.is_inner

  source_value : (k : ℕ) (source : Source) → slice_get (every_source v block) k ≡ Some source → value v image block ≡ Some (given image source)
  source_value k source at =
      ⊎_elim
      (λ front. let from = in_map copy (copies v block) front.0 source front.1 in copy_value front.0 from.0 from.1 ∙ ap (λ (s : Source). Some (given image s)) from.2)
      (λ back. let from = in_map row (rows v block) back.0 source back.1 in row_value back.0 from.0 from.1 ∙ ap (λ (s : Source). Some (given image s)) from.2)
      (in_either (map copy (copies v block)) (map row (rows v block)) k source at)

pub redundant_if : (v : Volume) (image : Image) → IsVolume v → AreSectors image → IsConsistent v image → IsRedundant v image
redundant_if v image known are is = record {
  agree = λ block k source at. source_value v image known are is block k source at;
  sum_to_zero = is.sum_to_zero;
}

-- ---- redundant, so consistent

module _ (v : Volume) (image : Image) (is : IsRedundant v image) where
  pub copy_gives : (block k : ℕ) (one : Site) → slice_get (copies v block) k ≡ Some one → value v image block ≡ Some (bytes_at image one)
  copy_gives block k one at = is.agree block k (copy one) (first_get (map copy (copies v block)) (map row (rows v block)) k (copy one) (mapped_at copy (copies v block) k one at))

  row_gives : (block j k : ℕ) (spot : Spot) (part : Part) (cell : ℕ × ℕ) (sites : List Site) → slice_get (block_spots v block) j ≡ Some spot → slice_get v.parts spot.element ≡ Some part
      → keeps_parity part.shape.layout ≡ true → slice_get (element_cells part.shape spot.block) k ≡ Some cell → row_without part.places cell.0 cell.1 ≡ Some sites
      → value v image block ≡ Some (sum_at image sites)
  row_gives block j k spot part cell sites spot_at part_at parity cell_at row_at =
      let inner = get_filter_map (λ (c : ℕ × ℕ). row_without part.places c.0 c.1) (element_cells part.shape spot.block) k cell sites cell_at row_at in
      let own = ap (λ b. slice_get (if b then filter_map (λ (c : ℕ × ℕ). row_without part.places c.0 c.1) (element_cells part.shape spot.block) else []) inner.0) parity ∙ inner.1 in
      let among = to_flat (at_spot v.parts element_rows) (block_spots v block) j inner.0 spot sites spot_at (ap (λ (l : List (List Site)). slice_get l inner.0) (at_part v.parts element_rows spot part part_at) ∙ own) in
      let there = in_second (map copy (copies v block)) (map row (rows v block)) among.0 (row sites) (mapped_at row (rows v block) among.0 sites among.1) in
      is.agree block there.0 (row sites) there.1

pub consistent_if : (v : Volume) (image : Image) → IsRedundant v image → IsConsistent v image
consistent_if v image is = record {
  equal_copies = λ block j k one other one_at other_at.
      same_some_bytes (value v image block) (bytes_at image one) (bytes_at image other) (copy_gives v image is block j one one_at) (copy_gives v image is block k other other_at);
  sum_to_zero = is.sum_to_zero;
  mirrored_rows = λ mirrored block j k spot part cell sites spot_at part_at parity cell_at own_at row_at. row_gives v image is block j k spot part cell sites spot_at part_at parity cell_at row_at;
}
