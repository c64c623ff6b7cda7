-- Items of lists.
use Rattle.std.proofs.Common.{◌≡◌, ◌⊎◌, ℕ, zero, suc, ◌<◌, Bool, true, false, List, [], ◌∷◌, ◌++◌, map, if◌then◌else◌, Some, slice_get, refl, ap, inl, inr, ⊎_elim, arith}

-- An element of two lists is one of the first, or of the second.
pub either_list : {A : Type 0} (xs ys : List A) (k : ℕ) (x : A) → slice_get (xs ++ ys) k ≡ Some x → (slice_get xs k ≡ Some x) ⊎ ((i : ℕ) × (slice_get ys i ≡ Some x))
either_list [] ys k x e = inr (k, e)
either_list (y ∷ xs) ys zero x e = inl e
either_list (y ∷ xs) ys (suc k) x e = either_list xs ys k x e

-- Two elements of two lists, in order, stand both in the first, both in the second, or one in each.
pub two_of : {A : Type 0} (xs ys : List A) (i k : ℕ) (x y : A) → i < k → slice_get (xs ++ ys) i ≡ Some x → slice_get (xs ++ ys) k ≡ Some y
    → ((slice_get xs i ≡ Some x) × (slice_get xs k ≡ Some y)) ⊎ ((slice_get xs i ≡ Some x) × ((n : ℕ) × (slice_get ys n ≡ Some y))) ⊎ ((m : ℕ) × (n : ℕ) × (m < n) × (slice_get ys m ≡ Some x) × (slice_get ys n ≡ Some y))
two_of [] ys i k x y less at there = inr (inr (i, k, less, at, there))
two_of (z ∷ xs) ys i zero x y less at there = absurd (omega arith)
two_of (z ∷ xs) ys zero (suc k) x y less at there = ⊎_elim (λ left. inl (at, left)) (λ right. inr (inl (at, right))) (either_list xs ys k y there)
two_of (z ∷ xs) ys (suc i) (suc k) x y less at there = two_of xs ys i k x y (omega arith) at there

-- What is chosen alone is the one item.
pub chosen_get : {A : Type 0} (x y : A) (b : Bool) (i : ℕ) → slice_get (if b then x ∷ [] else []) i ≡ Some y → (b ≡ true) × (i ≡ 0) × (y ≡ x)
chosen_get x y true zero e = (refl, refl, cc)
chosen_get x y true (suc i) e = absurd cc
chosen_get x y false i e = absurd cc

-- Items that stay are the same.
pub map_stays : {A : Type 0} (xs : List A) → xs ≡ map (λ x. x) xs
map_stays [] = refl
map_stays (x ∷ xs) = ap (λ ys. x ∷ ys) (map_stays xs)
