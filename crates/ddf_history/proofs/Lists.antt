-- Which element of a list is where.
use Rattle.std.proofs.Common.{◌≡◌, ◌⊎◌, ℕ, zero, suc, ◌<◌, List, [], ◌∷◌, ◌++◌, Some, length, slice_get, take, refl, ap, inl, inr, ⊎_elim, arith}

-- an element of a list that gets one more is one that it had, or that one
pub get_more : {A : Type 0} (xs : List A) (x : A) (i : ℕ) (y : A) → slice_get (xs ++ x ∷ []) i ≡ Some y → (slice_get xs i ≡ Some y) ⊎ ((i ≡ length xs) × (y ≡ x))
get_more [] x zero y e = inr (refl, cc)
get_more [] x (suc i) y e = absurd cc
get_more (z ∷ xs) x zero y e = inl e
get_more (z ∷ xs) x (suc i) y e = ⊎_elim inl (λ last. inr (ap suc last.0, last.1)) (get_more xs x i y e)

-- An element of the first ones of a list is one of the list, below their number.
pub get_taken : {A : Type 0} (xs : List A) (n i : ℕ) (y : A) → slice_get (take n xs) i ≡ Some y → (slice_get xs i ≡ Some y) × (i < n)
get_taken xs zero i y e = absurd cc
get_taken [] (suc n) i y e = absurd cc
get_taken (z ∷ xs) (suc n) zero y e = (e, omega arith)
get_taken (z ∷ xs) (suc n) (suc i) y e = let rest = get_taken xs n i y e in (rest.0, omega (arith, rest.1))

-- An element below a number is among that many first ones.
pub taken_get : {A : Type 0} (xs : List A) (n i : ℕ) (y : A) → slice_get xs i ≡ Some y → i < n → slice_get (take n xs) i ≡ Some y
taken_get xs zero i y e lt = absurd (omega arith)
taken_get [] (suc n) i y e lt = e
taken_get (z ∷ xs) (suc n) zero y e lt = e
taken_get (z ∷ xs) (suc n) (suc i) y e lt = taken_get xs n i y e (omega arith)
