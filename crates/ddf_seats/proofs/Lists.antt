-- Items of lists, place by place.
use Rattle.std.proofs.Common.{◌≡◌, ℕ, zero, suc, ◌+◌, ◌<◌, ◌⊎◌, inl, inr, Bool, true, false, cond, List, [], ◌∷◌, ◌++◌, length, take, drop, get_or, Option, Some, None, refl, sym, ap, ◌∙◌, ⊎_elim, arith}
use Rattle.std.proofs.lemmas.List.{take_more, take-append-drop}
use Rattle.std.specs.Prelude.{find, slice_get}
use Rattle.std.specs.Option.{option_or}
use Rattle.std.proofs.lemmas.List.Folds.{find-append}

-- the item at a place in a list with one more is one of the list, or the last
pub get_more : {X : Type 0} (xs : List X) (x y : X) (k : ℕ) → slice_get (xs ++ x ∷ []) k ≡ Some y → (slice_get xs k ≡ Some y) ⊎ ((k ≡ length xs) × (x ≡ y))
get_more [] x y zero h = inr (refl, cc)
get_more [] x y (suc k) h = absurd cc
get_more (z ∷ zs) x y zero h = inl h
get_more (z ∷ zs) x y (suc k) h = ⊎_elim (λ before. inl before) (λ last. inr (ap suc last.0, last.1)) (get_more zs x y k h)

pub get_within : {X : Type 0} (xs : List X) (x : X) (k : ℕ) → slice_get xs k ≡ Some x → k < length xs
get_within [] x k h = absurd cc
get_within (y ∷ ys) x zero h = omega arith
get_within (y ∷ ys) x (suc k) h = let below = get_within ys x k h in omega arith

-- ---- the first that passes a test

module _ {X : Type 0} (test : X → Bool) (xs : List X) (i : ℕ) (x : X) (below : i < length xs) (is : x ≡ get_or xs i x) (none : find test (take i xs) ≡ None) where
  one_more : find test (take (i + 1) xs) ≡ cond (test x) (Some x) None
  one_more =
      ap (find test) (take_more xs i x below) ∙ find-append test (take i xs) (get_or xs i x ∷ [])
      ∙ ap (λ (found : Option X). option_or found (find test (get_or xs i x ∷ []))) none
      ∙ ap (λ (y : X). find test (y ∷ [])) (sym is)

  -- One more fails it.
  pub none_more : test x ≡ false → find test (take (i + 1) xs) ≡ None
  none_more fails = one_more ∙ ap (λ (b : Bool). cond b (Some x) None) fails

  -- The first that passes is found.
  pub found_here : test x ≡ true → find test xs ≡ Some x
  found_here passes =
      ap (find test) (sym (take-append-drop (i + 1) xs)) ∙ find-append test (take (i + 1) xs) (drop (i + 1) xs)
      ∙ ap (λ (found : Option X). option_or found (find test (drop (i + 1) xs))) (one_more ∙ ap (λ (b : Bool). cond b (Some x) None) passes)
