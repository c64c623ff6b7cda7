-- The other cells of a row.
use Rattle.std.proofs.Common.{◌≡◌, ◌∙◌, ℕ, ◌+◌, ◌-◌, ◌<◌, List, [], ◌∷◌, ◌++◌, Bool, true, false, not, Option, Some, None, refl, sym, ap}
use Rattle.std.specs.Prelude.{map, filter, option_map, is_some, ◌==◌, ◌&&◌, if◌then◌else◌, length}
use Rattle.std.specs.List.{range_with_len, flat_map}
use Rattle.ddf_array.specs.declared.place.Place.{Place}
use Rattle.ddf_array.specs.Places.{site_at}
use Rattle.ddf_array.specs.Sources.{all_of, row_without, other_at}
use Rattle.ddf_array.proofs.Ranges.{flat-more, flat-around}

-- ---- all of some values

is_some-map : {X Y : Type 0} (f : X → Y) (o : Option X) → is_some (option_map f o) ≡ is_some o
is_some-map f None = refl
is_some-map f (Some x) = refl

pub all_of-append : {X : Type 0} (xs ys : List (Option X)) → is_some (all_of (xs ++ ys)) ≡ (is_some (all_of xs) && is_some (all_of ys))
all_of-append [] ys = refl
all_of-append (None ∷ xs) ys = refl
all_of-append (Some x ∷ xs) ys =
    is_some-map (λ l. x ∷ l) (all_of (xs ++ ys)) ∙ all_of-append xs ys ∙ ap (λ b. b && is_some (all_of ys)) (sym (is_some-map (λ l. x ∷ l) (all_of xs)))

-- ---- position by position

map_filter : {X Y : Type 0} (f : X → Y) (q : X → Bool) (xs : List X) → map f (filter (λ x. not (q x)) xs) ≡ flat_map (λ x. if q x then [] else f x ∷ []) xs
map_filter f q [] = refl
map_filter f q (x ∷ xs) = by_case (q x) (map_filter f q xs)
  where
    by_case : (b : Bool) → map f (filter (λ x. not (q x)) xs) ≡ flat_map (λ x. if q x then [] else f x ∷ []) xs
        → map f (if not b then x ∷ filter (λ x. not (q x)) xs else filter (λ x. not (q x)) xs) ≡ (if b then [] else f x ∷ []) ++ flat_map (λ x. if q x then [] else f x ∷ []) xs
    by_case false e = ap (λ l. f x ∷ l) e
    by_case true e = e

pub row_is : (places : List Place) (position sector : ℕ) → row_without places position sector ≡ all_of (flat_map (other_at places sector position) (range_with_len 0 (length places)))
row_is places position sector = ap all_of (map_filter (λ other. site_at places other sector) (λ other. other == position) (range_with_len 0 (length places)))

-- one position more
pub row_more : (places : List Place) (position sector k : ℕ) → is_some (all_of (flat_map (other_at places sector position) (range_with_len 0 k))) ≡ true
    → is_some (all_of (other_at places sector position k)) ≡ true → is_some (all_of (flat_map (other_at places sector position) (range_with_len 0 (k + 1)))) ≡ true
row_more places position sector k a b =
    ap (λ l. is_some (all_of l)) (flat-more (other_at places sector position) k)
    ∙ all_of-append (flat_map (other_at places sector position) (range_with_len 0 k)) (other_at places sector position k) ∙ both _ _ a b
  where
    both : (p q : Bool) → p ≡ true → q ≡ true → (p && q) ≡ true
    both true q e f = f
    both false q e f = e

-- one that isn't available
pub row_lacks : (places : List Place) (position sector n k : ℕ) → k < n → is_some (all_of (other_at places sector position k)) ≡ false
    → is_some (all_of (flat_map (other_at places sector position) (range_with_len 0 n))) ≡ false
row_lacks places position sector n k below e =
    let each = other_at places sector position in
    ap (λ l. is_some (all_of l)) (flat-around each n k below)
    ∙ all_of-append (flat_map each (range_with_len 0 k)) (each k ++ flat_map each (range_with_len (k + 1) (n - k - 1)))
    ∙ ap (λ b. is_some (all_of (flat_map each (range_with_len 0 k))) && b) (all_of-append (each k) (flat_map each (range_with_len (k + 1) (n - k - 1))) ∙ ap (λ b. b && is_some (all_of (flat_map each (range_with_len (k + 1) (n - k - 1))))) e)
    ∙ never (is_some (all_of (flat_map each (range_with_len 0 k))))
  where
    never : (b : Bool) → (b && false) ≡ false
    never true = refl
    never false = refl
