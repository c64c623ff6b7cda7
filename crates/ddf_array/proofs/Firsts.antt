-- The first item of a list made piece by piece.
use Rattle.std.proofs.Common.{◌≡◌, ◌∙◌, ℕ, ◌+◌, ◌-◌, ◌<◌, List, [], ◌∷◌, ◌++◌, true, false, Option, Some, None, refl, sym, ap, map, length, slice_get}
use Rattle.std.specs.Prelude.{option_to_list, is_some, filter_map}
use Rattle.std.specs.List.{range_with_len, flat_map, cons_option}
use Rattle.ddf_primary.specs.Levels.{IsShape}
use Rattle.ddf_primary.specs.Cells.{cells}
use Rattle.ddf_array.specs.declared.part.Part.{Part}
use Rattle.ddf_array.specs.declared.place.Place.{Place}
use Rattle.ddf_array.specs.declared.site.Site.{Site}
use Rattle.ddf_array.specs.Places.{site_at}
use Rattle.ddf_array.specs.Levels.{is_on_every, keeps_copies}
use Rattle.ddf_array.specs.Sources.{element_copies}
use Rattle.ddf_array.proofs.Ranges.{flat-more, flat-around}
use Rattle.ddf_array.proofs.ElementCells.{cells_every, cells_one}

pub none_more : {X : Type 0} (each : ℕ → List X) (k : ℕ) → flat_map each (range_with_len 0 k) ≡ [] → slice_get (each k) 0 ≡ None → flat_map each (range_with_len 0 (k + 1)) ≡ []
none_more each k none here = flat-more each k ∙ ap (λ l. l ++ each k) none ∙ nothing (each k) here
  where
    nothing : {X : Type 0} (xs : List X) → slice_get xs 0 ≡ None → xs ≡ []
    nothing [] e = refl
    nothing (x ∷ xs) e = absurd (cc)

front : {X : Type 0} (xs ys : List X) (x : X) → slice_get xs 0 ≡ Some x → slice_get (xs ++ ys) 0 ≡ Some x
front [] ys x e = absurd (cc)
front (y ∷ xs) ys x e = e

pub first_found : {X : Type 0} (each : ℕ → List X) (n k : ℕ) (x : X) → flat_map each (range_with_len 0 k) ≡ [] → k < n → slice_get (each k) 0 ≡ Some x
    → slice_get (flat_map each (range_with_len 0 n)) 0 ≡ Some x
first_found each n k x none below here =
    let rest = flat_map each (range_with_len (k + 1) (n - k - 1)) in
    ap (λ l. slice_get l 0) (flat-around each n k below ∙ ap (λ l. l ++ (each k ++ rest)) none) ∙ front (each k) rest x here

pub by_some : {X : Type 0} (found first : Option X) → is_some found ≡ true → ((x : X) → found ≡ Some x → first ≡ Some x) → found ≡ first
by_some None first is then = absurd (cc)
by_some (Some x) first is then = sym (then x refl)

pub first_option : {X : Type 0} (o : Option X) → slice_get (option_to_list o) 0 ≡ o
first_option None = refl
first_option (Some x) = refl

filter_map-flat : (places : List Place) (sector : ℕ) (positions : List ℕ)
    → filter_map (λ (cell : ℕ × ℕ). site_at places cell.0 cell.1) (map (λ position. (position, sector)) positions) ≡ flat_map (λ position. option_to_list (site_at places position sector)) positions
filter_map-flat places sector [] = refl
filter_map-flat places sector (p ∷ positions) = by_case (site_at places p sector) (filter_map-flat places sector positions)
  where
    by_case : (o : Option Site) → {xs ys : List Site} → xs ≡ ys → cons_option o xs ≡ option_to_list o ++ ys
    by_case None e = e
    by_case (Some site) e = ap (λ l. site ∷ l) e

module _ (part : Part) (block member sector : ℕ) (at : slice_get (cells part.shape) block ≡ Some (member, sector)) where
  pub element_copies_every : is_on_every part.shape.layout ≡ true → length part.places ≡ part.shape.members
      → element_copies part block ≡ flat_map (λ position. option_to_list (site_at part.places position sector)) (range_with_len 0 (length part.places))
  element_copies_every is long =
      ap (filter_map (λ (cell : ℕ × ℕ). site_at part.places cell.0 cell.1)) (cells_every part block member sector at is)
      ∙ filter_map-flat part.places sector (range_with_len 0 part.shape.members)
      ∙ ap (λ n. flat_map (λ position. option_to_list (site_at part.places position sector)) (range_with_len 0 n)) (sym long)

  pub element_copies_one : IsShape part.shape → keeps_copies part.shape.layout ≡ false → site_at part.places member sector ≡ slice_get (element_copies part block) 0
  element_copies_one known is =
      sym (only_first (site_at part.places member sector))
      ∙ ap (λ l. slice_get (filter_map (λ (cell : ℕ × ℕ). site_at part.places cell.0 cell.1) l) 0) (sym (cells_one part block member sector at known is))
    where
      only_first : {X : Type 0} (o : Option X) → slice_get (cons_option o []) 0 ≡ o
      only_first None = refl
      only_first (Some x) = refl
