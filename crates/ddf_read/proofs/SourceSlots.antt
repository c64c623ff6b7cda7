-- The sources of an array's blocks lie on slots of its available places.
use Rattle.std.proofs.Common.{◌≡◌, ⊎_elim, ℕ, ◌<◌, ◌+◌, Bool, true, false, List, [], ◌∷◌, ◌++◌, length, map, Option, Some, None, refl, subst}
use Rattle.std.specs.Prelude.{filter_map, option_map, slice_get, if◌then◌else◌}
use Rattle.std.specs.List.{cons_option, flat_map}
use Rattle.std.specs.Option.{option_and_then}
use Rattle.ddf_secondary.specs.declared.spot.Spot.{Spot}
use Rattle.ddf_array.specs.declared.part.Part.{Part}
use Rattle.ddf_array.specs.declared.place.Place.{Place}
use Rattle.ddf_array.specs.declared.site.Site.{Site}
use Rattle.ddf_array.specs.Cells.{block_spots, element_cells}
use Rattle.ddf_array.specs.Levels.{keeps_parity}
use Rattle.ddf_array.specs.Places.{site, site_at, site_on}
use Rattle.ddf_array.specs.Sources.{all_of, at_spot, copies, copy, element_copies, element_rows, every_source, first_copy, other_positions, row, row_without, rows, sources, trusts_parity}
use Rattle.ddf_array.specs.Volume.{Fits, Volume}
use Rattle.ddf_read.specs.Reading.{FirstHasSlot, HasSite, IsOn}

-- ---- all sectors of some sources are on such slots

abbrev AllSites : (ℕ → Type 0) → List Site → Type 0
AllSites P [] = Unit {0}
AllSites P (one ∷ sites) = P one.slot × AllSites P sites

abbrev AllRows : (ℕ → Type 0) → List (List Site) → Type 0
AllRows P [] = Unit {0}
AllRows P (sites ∷ others) = AllSites P sites × AllRows P others

module _ (P Q : ℕ → Type 0) where
  in_sites : (sites : List Site) → AllSites P sites → HasSite Q sites → (s : ℕ) × (P s × Q s)
  in_sites [] all has = absurd has
  in_sites (one ∷ sites) all has = ⊎_elim (λ here. (one.slot, (all.0, here))) (λ later. in_sites sites all.1 later) has

  in_rows : (others : List (List Site)) → AllRows P others → FirstHasSlot Q (map row others) → (s : ℕ) × (P s × Q s)
  in_rows [] all has = absurd has
  in_rows (sites ∷ others) all has = in_sites sites all.0 has

  in_copies : (sites : List Site) → AllSites P sites → FirstHasSlot Q (map copy sites) → (s : ℕ) × (P s × Q s)
  in_copies [] all has = absurd has
  in_copies (one ∷ sites) all has = (one.slot, (all.0, has))

  in_either : (sites : List Site) (others : List (List Site)) → AllSites P sites → AllRows P others → FirstHasSlot Q (map copy sites ++ map row others) → (s : ℕ) × (P s × Q s)
  in_either [] others all each has = in_rows others each has
  in_either (one ∷ sites) others all each has = (one.slot, (all.0, has))

module _ (P : ℕ → Type 0) where
  first_site : (sites : List Site) (one : Site) → AllSites P sites → slice_get sites 0 ≡ Some one → P one.slot
  first_site [] one all e = absurd cc
  first_site (x ∷ sites) one all e = let same : x ≡ one = cc in subst (λ (o : Site). P o.slot) same all.0

  sites_more : (xs ys : List Site) → AllSites P xs → AllSites P ys → AllSites P (xs ++ ys)
  sites_more [] ys all each = each
  sites_more (x ∷ xs) ys all each = (all.0, sites_more xs ys all.1 each)

  rows_more : (xs ys : List (List Site)) → AllRows P xs → AllRows P ys → AllRows P (xs ++ ys)
  rows_more [] ys all each = each
  rows_more (x ∷ xs) ys all each = (all.0, rows_more xs ys all.1 each)

  site_kept : (found : Option Site) (others : List Site) → ((one : Site) → found ≡ Some one → P one.slot) → AllSites P others → AllSites P (cons_option found others)
  site_kept None others here all = all
  site_kept (Some one) others here all = (here one refl, all)

  row_kept : (found : Option (List Site)) (others : List (List Site)) → ((one : List Site) → found ≡ Some one → AllSites P one) → AllRows P others → AllRows P (cons_option found others)
  row_kept None others here all = all
  row_kept (Some one) others here all = (here one refl, all)

  -- what a list of cells gives
  sites_of : {X : Type 0} (f : X → Option Site) (xs : List X) → ((x : X) (one : Site) → f x ≡ Some one → P one.slot) → AllSites P (filter_map f xs)
  sites_of f [] each = tt
  sites_of f (x ∷ xs) each = site_kept (f x) (filter_map f xs) (each x) (sites_of f xs each)

  rows_of : {X : Type 0} (f : X → Option (List Site)) (xs : List X) → ((x : X) (one : List Site) → f x ≡ Some one → AllSites P one) → AllRows P (filter_map f xs)
  rows_of f [] each = tt
  rows_of f (x ∷ xs) each = row_kept (f x) (filter_map f xs) (each x) (rows_of f xs each)

  joined_rest : (x : Site) (rest : Option (List Site)) (sites : List Site) → P x.slot → ((xs : List Site) → rest ≡ Some xs → AllSites P xs)
      → option_map (λ xs. x ∷ xs) rest ≡ Some sites → AllSites P sites
  joined_rest x None sites here later e = absurd cc
  joined_rest x (Some xs) sites here later e = let same : x ∷ xs ≡ sites = cc in subst (AllSites P) same (here, later xs refl)

  joined : (one : Option Site) (others : List (Option Site)) (sites : List Site) → ((x : Site) → one ≡ Some x → P x.slot) → ((xs : List Site) → all_of others ≡ Some xs → AllSites P xs)
      → all_of (one ∷ others) ≡ Some sites → AllSites P sites
  joined None others sites here later e = absurd cc
  joined (Some x) others sites here later e = joined_rest x (all_of others) sites (here x refl) later e

  all_of_sites : {X : Type 0} (f : X → Option Site) (xs : List X) (sites : List Site) → ((x : X) (one : Site) → f x ≡ Some one → P one.slot) → all_of (map f xs) ≡ Some sites → AllSites P sites
  all_of_sites f [] sites each e = let same : [] ≡ sites = cc in subst (AllSites P) same tt
  all_of_sites f (x ∷ xs) sites each e = joined (f x) (map f xs) sites (each x) (λ rest is. all_of_sites f xs rest each is) e

-- ---- those of an array

module _ (v : Volume) where
  module _ (element : ℕ) (part : Part) (is_part : slice_get v.parts element ≡ Some part) where
    -- a sector of an available place is on its slot
    place_on : (position sector : ℕ) (place : Place) (one : Site) → slice_get part.places position ≡ Some place → site place sector ≡ Some one → IsOn v one.slot
    place_on position sector place one is_place e = by place.synced place.slot refl refl e
      where
        by : (synced : Bool) (slot : Option ℕ) → place.synced ≡ synced → place.slot ≡ slot
            → (if synced then option_map (λ s. site_on s (place.start + sector)) slot else None) ≡ Some one → IsOn v one.slot
        by false slot is_synced is_there e = absurd cc
        by true None is_synced is_there e = absurd cc
        by true (Some s) is_synced is_there e =
            let same : site_on s (place.start + sector) ≡ one = cc in
            subst (λ (o : Site). IsOn v o.slot) same
            (record { element = element; position = position; part = part; place = place; is_part = is_part; is_place = is_place; is_synced = is_synced; is_there = is_there })

    at_on : (position sector : ℕ) (one : Site) → site_at part.places position sector ≡ Some one → IsOn v one.slot
    at_on position sector one e = by (slice_get part.places position) refl e
      where
        by : (found : Option Place) → slice_get part.places position ≡ found → option_and_then (λ place. site place sector) found ≡ Some one → IsOn v one.slot
        by None is e = absurd cc
        by (Some place) is e = place_on position sector place one is e

    copies_on : (block : ℕ) → AllSites (IsOn v) (element_copies part block)
    copies_on block = sites_of (IsOn v) (λ cell. site_at part.places cell.0 cell.1) (element_cells part.shape block) (λ cell one e. at_on cell.0 cell.1 one e)

    rows_on : (block : ℕ) → AllRows (IsOn v) (element_rows part block)
    rows_on block = by (keeps_parity part.shape.layout)
      where
        by : (parity : Bool) → AllRows (IsOn v) (if parity then filter_map (λ cell. row_without part.places cell.0 cell.1) (element_cells part.shape block) else [])
        by false = tt
        by true = rows_of (IsOn v) (λ cell. row_without part.places cell.0 cell.1) (element_cells part.shape block)
            (λ cell one e. all_of_sites (IsOn v) (λ other. site_at part.places other cell.1) (other_positions (length part.places) cell.0) one (λ other x is. at_on other cell.1 x is) e)

  sites_at : (spot : Spot) (found : Option Part) → slice_get v.parts spot.element ≡ found → AllSites (IsOn v) (elim found [ None ↦ [] | Some part ↦ element_copies part spot.block ])
  sites_at spot None is = tt
  sites_at spot (Some part) is = copies_on spot.element part is spot.block

  rows_at : (spot : Spot) (found : Option Part) → slice_get v.parts spot.element ≡ found → AllRows (IsOn v) (elim found [ None ↦ [] | Some part ↦ element_rows part spot.block ])
  rows_at spot None is = tt
  rows_at spot (Some part) is = rows_on spot.element part is spot.block

  sites_in : (spots : List Spot) → AllSites (IsOn v) (flat_map (at_spot v.parts element_copies) spots)
  sites_in [] = tt
  sites_in (spot ∷ spots) = sites_more (IsOn v) (at_spot v.parts element_copies spot) (flat_map (at_spot v.parts element_copies) spots) (sites_at spot (slice_get v.parts spot.element) refl) (sites_in spots)

  rows_in : (spots : List Spot) → AllRows (IsOn v) (flat_map (at_spot v.parts element_rows) spots)
  rows_in [] = tt
  rows_in (spot ∷ spots) = rows_more (IsOn v) (at_spot v.parts element_rows spot) (flat_map (at_spot v.parts element_rows) spots) (rows_at spot (slice_get v.parts spot.element) refl) (rows_in spots)

  -- the first copy of a block is on a slot of the array
  pub copy_on : (block : ℕ) (one : Site) → first_copy v block ≡ Some one → IsOn v one.slot
  copy_on block one e = first_site (IsOn v) (copies v block) one (sites_in (block_spots v block)) e

  first_by : (P : ℕ → Type 0) (block : ℕ) (trusted : Bool) → FirstHasSlot P (if trusted then every_source v block else map copy (copies v block)) → (s : ℕ) × (IsOn v s × P s)
  first_by P block true has = in_either (IsOn v) P (copies v block) (rows v block) (sites_in (block_spots v block)) (rows_in (block_spots v block)) has
  first_by P block false has = in_copies (IsOn v) P (copies v block) (sites_in (block_spots v block)) has

  -- the slots of the first source of a block are slots of the array
  pub first_on : (P : ℕ → Type 0) (block : ℕ) → FirstHasSlot P (sources v block) → (s : ℕ) × (IsOn v s × P s)
  first_on P block has = first_by P block (trusts_parity v) has

  pub slot_on : (block slot : ℕ) → FirstHasSlot (λ other. other ≡ slot) (sources v block) → IsOn v slot
  slot_on block slot has = let found = first_on (λ other. other ≡ slot) block has in subst (IsOn v) found.1.1 found.1.0

-- they are slots of the bay
pub slot_there : (sizes : List ℕ) (v : Volume) → Fits sizes v → (block slot : ℕ) → FirstHasSlot (λ other. other ≡ slot) (sources v block) → slot < length sizes
slot_there sizes v fits block slot has =
    let on = slot_on v block slot has in
    (fits on.element on.part on.is_part on.position on.place on.is_place slot on.is_there).0
