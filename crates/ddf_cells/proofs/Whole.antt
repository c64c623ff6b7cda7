-- Elements that lack no position: each block of an array of them has an available cell.
use Rattle.std.proofs.Common.{◌≡◌, ◌∙◌, ℕ, zero, suc, ◌+◌, ◌<◌, ◌≤◌, Bool, true, false, List, [], ◌∷◌, ◌++◌, Option, Some, None, refl, sym, ap, arith, map, length, slice_get, ◌&&◌, filter_map}
use Rattle.std.specs.Prelude.{option_map, option_and_then, is_some, if◌then◌else◌}
use Rattle.std.specs.List.{list_all, list_any}
use Rattle.ddf_lemmas.proofs.Lists.{at_first, get_filter_map}
use Rattle.ddf_lemmas.proofs.Tests.{or_first, or_second, second_of_and_not}
use Rattle.ddf_bay.specs.Sectors.{Image}
use Rattle.ddf_array.specs.declared.part.Part.{Part}
use Rattle.ddf_array.specs.declared.place.Place.{Place}
use Rattle.ddf_array.specs.declared.site.Site.{Site}
use Rattle.ddf_array.specs.Places.{is_available, site, site_at, site_on}
use Rattle.ddf_array.specs.Levels.{keeps_parity}
use Rattle.ddf_array.specs.Volume.{Volume, IsVolume, capacity}
use Rattle.ddf_array.specs.Sources.{copy, row, copies, rows, row_without, at_spot, element_copies, element_rows}
use Rattle.ddf_array.specs.Values.{given}
use Rattle.ddf_array.proofs.Consistent.{at_part, to_flat, in_filter, in_flat}
use Rattle.ddf_array.proofs.Enough.{all_pass}
use Rattle.ddf_cells.specs.Degraded.{is_degraded, lacks_place}
use Rattle.ddf_cells.proofs.CopiesOn.{cell_within}
use Rattle.ddf_array.specs.Cells.{block_spots, element_cells}
use Rattle.ddf_array.specs.Within.{is_within}
use Rattle.ddf_array.proofs.Losses.{some_value}
use Rattle.ddf_cells.specs.CellSources.{IsReadable}

-- ---- places of an element that isn't degraded

is_site : (place : Place) (sector : ℕ) (synced : Bool) (slot : Option ℕ) → (synced && is_some slot) ≡ true → (one : Site) × ((if synced then option_map (λ s. site_on s (place.start + sector)) slot else None) ≡ Some one)
is_site place sector true (Some s) is = (site_on s (place.start + sector), refl)
is_site place sector true None is = absurd (cc)
is_site place sector false slot is = absurd (cc)

pub none_lacks : (xs : List Part) → list_any lacks_place xs ≡ false → (k : ℕ) (x : Part) → slice_get xs k ≡ Some x → lacks_place x ≡ false
none_lacks [] e k x at = absurd (cc)
none_lacks (y ∷ ys) e zero x at = let same : y ≡ x = cc in sym (ap lacks_place same) ∙ or_first (lacks_place y) (list_any lacks_place ys) e
none_lacks (y ∷ ys) e (suc k) x at = none_lacks ys (or_second (lacks_place y) (list_any lacks_place ys) e) k x at

at_place : (places : List Place) (position sector : ℕ) (found : Option Place) → slice_get places position ≡ found → position < length places → list_all is_available places ≡ true
    → (one : Site) × (option_and_then (λ place. site place sector) found ≡ Some one)
at_place places position sector None at below all = absurd (omega (arith, below, past places position at))
  where
    past : (xs : List Place) (k : ℕ) → slice_get xs k ≡ None → length xs ≤ k
    past [] k e = omega arith
    past (x ∷ xs) zero e = absurd (cc)
    past (x ∷ xs) (suc k) e = omega (arith, past xs k e)
at_place places position sector (Some place) at below all = is_site place sector place.synced place.slot (all_pass is_available places all position place at)

-- each position of an element that keeps parity is available
pub whole_site : (v : Volume) → is_degraded v ≡ false → (element : ℕ) (part : Part) → slice_get v.parts element ≡ Some part → keeps_parity part.shape.layout ≡ true
    → (position sector : ℕ) → position < length part.places → (one : Site) × (site_at part.places position sector ≡ Some one)
whole_site v whole element part at parity position sector below =
    let lacks = none_lacks v.parts whole element part at in
    at_place part.places position sector (slice_get part.places position) refl below (second_of_and_not (keeps_parity part.shape.layout) (list_all is_available part.places) parity lacks)

-- ---- each block has a copy

some_row : (b : Bool) (xs : List (List Site)) (k : ℕ) (sites : List Site) → slice_get (if b then xs else []) k ≡ Some sites → (b ≡ true) × (slice_get xs k ≡ Some sites)
some_row true xs k sites e = (refl, e)
some_row false xs k sites e = absurd (cc)

of_part : (found : Option Part) (block k : ℕ) (sites : List Site) → slice_get (elim found [ None ↦ [] | Some part ↦ element_rows part block ]) k ≡ Some sites → (part : Part) × (found ≡ Some part) × (slice_get (element_rows part block) k ≡ Some sites)
of_part None block k sites e = absurd (cc)
of_part (Some part) block k sites e = (part, refl, e)

module _ (v : Volume) (known : IsVolume v) (whole : is_degraded v ≡ false) (block : ℕ) where
  row_has_copy : (k : ℕ) (sites : List Site) → slice_get (rows v block) k ≡ Some sites → (i : ℕ) × ((one : Site) × (slice_get (copies v block) i ≡ Some one))
  row_has_copy k sites at =
      let from = in_flat (at_spot v.parts element_rows) (block_spots v block) k sites at in
      let part = of_part (slice_get v.parts from.item.element) from.item.block from.inner sites from.is_inner in
      let row = some_row (keeps_parity part.0.shape.layout) (filter_map (λ (cell : ℕ × ℕ). row_without part.0.places cell.0 cell.1) (element_cells part.0.shape from.item.block)) from.inner sites part.2 in
      let cell = in_filter (λ (cell : ℕ × ℕ). row_without part.0.places cell.0 cell.1) (element_cells part.0.shape from.item.block) from.inner sites row.1 in
      let shape = known.are_parts from.item.element part.0 part.1 in
      let within = cell_within part.0 from.item.block shape.shape_is cell.at cell.item cell.is_at in
      let own = whole_site v whole from.item.element part.0 part.1 row.0 cell.item.0 cell.item.1 (omega (arith, within, shape.has_places)) in
      let inside = get_filter_map (λ (c : ℕ × ℕ). site_at part.0.places c.0 c.1) (element_cells part.0.shape from.item.block) cell.at cell.item own.0 cell.is_at own.1 in
      let among =
      to_flat (at_spot v.parts element_copies) (block_spots v block) from.at inside.0 from.item own.0 from.is_at
      (ap (λ (l : List Site). slice_get l inside.0) (at_part v.parts element_copies from.item part.0 part.1) ∙ inside.1) in
      (among.0, (own.0, among.1))

  some_copy : (xs : List Site) (ys : List (List Site)) (image : Image) → copies v block ≡ xs → rows v block ≡ ys → is_some (option_map (given image) (slice_get (map copy xs ++ map row ys) 0)) ≡ true
      → (i : ℕ) × ((one : Site) × (slice_get (copies v block) i ≡ Some one))
  some_copy (x ∷ xs) ys image e e' some = (0, (x, ap (λ (l : List Site). slice_get l 0) e))
  some_copy [] (y ∷ ys) image e e' some = row_has_copy 0 y (ap (λ (l : List (List Site)). slice_get l 0) e')
  some_copy [] [] image e e' some = absurd (cc)

  pub has_copy : is_within v ≡ true → block < capacity v → (i : ℕ) × ((one : Site) × (slice_get (copies v block) i ≡ Some one))
  has_copy within below = let image : Image = λ (s l : ℕ). [] in some_copy (copies v block) (rows v block) image refl refl (some_value v image block known within below)

-- an array that can be written can be read
pub readable : (v : Volume) → IsVolume v → is_degraded v ≡ false → is_within v ≡ true → IsReadable v
readable v known whole within = record {
  within = within;
  copied = λ marked block below none. let copied = has_copy v known whole block within below in let first = at_first (copies v block) copied.0 copied.1.0 copied.1.1 in never first.0 (sym none ∙ first.1);
}
  where
    never : (one : Site) → None ≡ Some one → ⊥
    never one e = cc
