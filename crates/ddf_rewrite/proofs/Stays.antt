-- The slots in which items stand, gathered before.
use Rattle.std.proofs.Common.{◌≡◌, Bool, ◌||◌, List, [], ◌∷◌, map, refl, ap}
use Rattle.std.specs.List.{list_any}

pub any_mapped : {X Y : Type 0} (test : Y → Bool) (f : X → Y) (xs : List X) → list_any test (map f xs) ≡ list_any (λ x. test (f x)) xs
any_mapped test f [] = refl
any_mapped test f (x ∷ xs) = ap (λ b. test (f x) || b) (any_mapped test f xs)

-- the same of a list that is what is made of another
pub any_of_mapped : {X Y : Type 0} (test : Y → Bool) (f : X → Y) (ys : List Y) (xs : List X) → ys ≡ map f xs → list_any test ys ≡ list_any (λ x. test (f x)) xs
any_of_mapped test f ys xs e = rw e (any_mapped test f xs)
