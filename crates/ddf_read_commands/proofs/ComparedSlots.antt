-- The slots of which a scrub compares sectors are slots of the bay.
use Rattle.std.proofs.Common.{◌≡◌, ◌⊎◌, inl, inr, ⊎_elim, ℕ, zero, suc, ◌+◌, ◌<◌, Bool, true, false, List, [], ◌∷◌, ◌++◌, length, map, Option, Some, None, filter_map, slice_get, refl, sym, subst}
use Rattle.std.specs.Prelude.{if◌then◌else◌, option_map}
use Rattle.std.specs.List.{range_with_len}
use Rattle.std.specs.Option.{option_and_then}
use Rattle.ddf_lemmas.proofs.Lists.{in_map}
use Rattle.ddf_array.specs.declared.part.Part.{Part}
use Rattle.ddf_array.specs.declared.place.Place.{Place}
use Rattle.ddf_array.specs.declared.site.Site.{Site}
use Rattle.ddf_array.specs.Cells.{block_spots, element_cells}
use Rattle.ddf_array.specs.Levels.{keeps_parity}
use Rattle.ddf_array.specs.Places.{site, site_at, site_on}
use Rattle.ddf_array.specs.Sources.{Source, all_of, at_spot, copies, copy, element_copies, element_rows, other_positions, row, row_without, rows}
use Rattle.ddf_array.specs.Volume.{Fits, Volume}
use Rattle.ddf_array.proofs.Consistent.{in_filter, in_flat}
use Rattle.ddf_read.specs.Reading.{HasSite, HasSlot}
use Rattle.ddf_resync.specs.Compared.{IsCompared}

-- ---- sectors on slots

module _ (slot : ℕ) where
  abbrev IsHere : ℕ → Type 0
  IsHere other = other ≡ slot

  -- an item of a list, or one of another behind it
  either : {X : Type 0} (xs ys : List X) (k : ℕ) (x : X) → slice_get (xs ++ ys) k ≡ Some x → ((j : ℕ) × (slice_get xs j ≡ Some x)) ⊎ ((j : ℕ) × (slice_get ys j ≡ Some x))
  either [] ys k x e = inr (k, e)
  either (y ∷ xs) ys zero x e = inl (zero, e)
  either (y ∷ xs) ys (suc k) x e = ⊎_elim (λ front. inl (suc front.0, front.1)) inr (either xs ys k x e)

  module _ (P : ℕ → Type 0) where
    joined : {X : Type 0} (f : X → Option Site) → ((x : X) (one : Site) → f x ≡ Some one → P one.slot) → (xs : List X) (sites : List Site) → all_of (map f xs) ≡ Some sites → HasSite IsHere sites → P slot
    joined f each [] sites e has = let none : [] ≡ sites = cc in absurd (subst (HasSite IsHere) (sym none) has)
    joined f each (x ∷ xs) sites e has = by (joined f each xs) (f x) refl (all_of (map f xs)) refl e
      where
        by : ((others : List Site) → all_of (map f xs) ≡ Some others → HasSite IsHere others → P slot) → (found : Option Site) → f x ≡ found → (rest : Option (List Site)) → all_of (map f xs) ≡ rest → all_of (found ∷ map f xs) ≡ Some sites → P slot
        by more None is rest those e = absurd cc
        by more (Some one) is None those e = absurd cc
        by more (Some one) is (Some others) those e =
            let same : sites ≡ one ∷ others = cc in
            ⊎_elim (λ here. subst P here (each x one is)) (λ later. more others those later) (subst (HasSite IsHere) same has)

  module _ (sizes : List ℕ) (v : Volume) (fits : Fits sizes v) where
    module _ (element : ℕ) (part : Part) (is_part : slice_get v.parts element ≡ Some part) where
      place_there : (position sector : ℕ) (place : Place) (one : Site) → slice_get part.places position ≡ Some place → site place sector ≡ Some one → one.slot < length sizes
      place_there position sector place one is_place e = by place.synced place.slot refl e
        where
          by : (synced : Bool) (found : Option ℕ) → place.slot ≡ found → (if synced then option_map (λ s. site_on s (place.start + sector)) found else None) ≡ Some one → one.slot < length sizes
          by false found is e = absurd cc
          by true None is e = absurd cc
          by true (Some s) is e =
              let same : site_on s (place.start + sector) ≡ one = cc in
              subst (λ (o : Site). o.slot < length sizes) same (fits element part is_part position place is_place s is).0

      site_there : (position sector : ℕ) (one : Site) → site_at part.places position sector ≡ Some one → one.slot < length sizes
      site_there position sector one e = by (slice_get part.places position) refl e
        where
          by : (found : Option Place) → slice_get part.places position ≡ found → option_and_then (λ place. site place sector) found ≡ Some one → one.slot < length sizes
          by None is e = absurd cc
          by (Some place) is e = place_there position sector place one is e

      row_there : (xs : List ℕ) (sector : ℕ) (sites : List Site) → all_of (map (λ other. site_at part.places other sector) xs) ≡ Some sites → HasSite IsHere sites → slot < length sizes
      row_there xs sector = joined (λ s. s < length sizes) (λ other. site_at part.places other sector) (λ other one e. site_there other sector one e) xs

    copy_there : (block k : ℕ) (one : Site) → slice_get (copies v block) k ≡ Some one → one.slot < length sizes
    copy_there block k one at =
        let from = in_flat (at_spot v.parts element_copies) (block_spots v block) k one at in
        by from.item.element from.item.block from.inner (slice_get v.parts from.item.element) refl from.is_inner
      where
        by : (element b inner : ℕ) (found : Option Part) → slice_get v.parts element ≡ found → slice_get (elim found [ None ↦ [] | Some part ↦ element_copies part b ]) inner ≡ Some one → one.slot < length sizes
        by element b inner None is e = absurd cc
        by element b inner (Some part) is e =
            let from = in_filter (λ (cell : ℕ × ℕ). site_at part.places cell.0 cell.1) (element_cells part.shape b) inner one e in
            site_there element part is from.item.0 from.item.1 one from.gives

    rows_there : (block k : ℕ) (sites : List Site) → slice_get (rows v block) k ≡ Some sites → HasSite IsHere sites → slot < length sizes
    rows_there block k sites at has =
        let from = in_flat (at_spot v.parts element_rows) (block_spots v block) k sites at in
        by from.item.element from.item.block from.inner (slice_get v.parts from.item.element) refl from.is_inner
      where
        of_part : (element b : ℕ) (part : Part) (inner : ℕ) → slice_get v.parts element ≡ Some part → (keeps : Bool)
            → slice_get (if keeps then filter_map (λ (cell : ℕ × ℕ). row_without part.places cell.0 cell.1) (element_cells part.shape b) else []) inner ≡ Some sites → slot < length sizes
        of_part element b part inner is false e = absurd cc
        of_part element b part inner is true e =
            let from = in_filter (λ (cell : ℕ × ℕ). row_without part.places cell.0 cell.1) (element_cells part.shape b) inner sites e in
            row_there element part is (other_positions (length part.places) from.item.0) from.item.1 sites from.gives has

        by : (element b inner : ℕ) (found : Option Part) → slice_get v.parts element ≡ found → slice_get (elim found [ None ↦ [] | Some part ↦ element_rows part b ]) inner ≡ Some sites → slot < length sizes
        by element b inner None is e = absurd cc
        by element b inner (Some part) is e = of_part element b part inner is (keeps_parity part.shape.layout) e

    source_there : (block : ℕ) (source : Source) → ((j : ℕ) × (slice_get (map copy (copies v block)) j ≡ Some source)) ⊎ ((j : ℕ) × (slice_get (map row (rows v block)) j ≡ Some source)) → HasSlot IsHere source
        → slot < length sizes
    source_there block source (inl front) has =
        let from = in_map copy (copies v block) front.0 source front.1 in
        subst (λ s. s < length sizes) (subst (HasSlot IsHere) (sym from.2) has) (copy_there block front.0 from.0 from.1)
    source_there block source (inr back) has =
        let from = in_map row (rows v block) back.0 source back.1 in
        rows_there block back.0 from.0 from.1 (subst (HasSlot IsHere) (sym from.2) has)

    pub compared_there : IsCompared v slot → slot < length sizes
    compared_there (inl of) = source_there of.block of.source (either (map copy (copies v of.block)) (map row (rows v of.block)) of.number of.source of.is_source) of.is_on
    compared_there (inr of) = row_there of.element of.part of.is_part (range_with_len 0 (length of.part.places)) of.sector of.sites of.is_whole of.is_on
