-- One step of a loop that puts f x in place of each x of a list.
use Rattle.std.proofs.Common.{◌≡◌, ℕ, zero, suc, ◌+◌, ◌<◌, List, [], ◌∷◌, ◌++◌, length, get_or, take, drop, set, refl, ap, arith, add-one}
use Rattle.std.specs.Prelude.{map}

step : {A : Type 0} (f : A → A) (xs : List A) (i : ℕ) (d : A) → i < length xs
    → set (map f (take i xs) ++ drop i xs) i (f (get_or (map f (take i xs) ++ drop i xs) i d)) ≡ map f (take (suc i) xs) ++ drop (suc i) xs
step f [] i d lt = absurd (omega (arith, lt))
step f (x ∷ xs) zero d lt = refl
step f (x ∷ xs) (suc i) d lt = ap (λ ys. f x ∷ ys) (step f xs i d (omega (arith, lt)))

pub mapped_more : {A : Type 0} (f : A → A) (xs ys : List A) (i : ℕ) (d : A) → i < length xs → ys ≡ map f (take i xs) ++ drop i xs
    → set ys i (f (get_or ys i d)) ≡ map f (take (i + 1) xs) ++ drop (i + 1) xs
mapped_more f xs ys i d lt e = rw (add-one, e) (step f xs i d lt)
