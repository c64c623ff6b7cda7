-- How many items of a list pass a test, where each is changed.
use Rattle.std.proofs.Common.{◌≡◌, ℕ, zero, suc, ◌+◌, ◌≤◌, Bool, true, false, List, [], ◌∷◌, Some, map, cond, refl, ap, ◌∙◌, arith}
use Rattle.std.proofs.lemmas.List.Sums.{sum_by-cons}
use Rattle.std.specs.Prelude.{count_by, slice_get}

-- The first counts as one where it passes.
count-cons : {X : Type 0} (p : X → Bool) (x : X) (xs : List X) → count_by p (x ∷ xs) ≡ cond (p x) 1 0 + count_by p xs
count-cons p x xs = sum_by-cons (λ y. cond (p y) 1 0) x xs

-- What passes where another does counts no less.
no_less : (b c : Bool) → (b ≡ true → c ≡ true) → cond b 1 0 ≤ cond c 1 0
no_less false true kept = omega arith
no_less false false kept = omega arith
no_less true c kept = rw (kept refl) (omega arith)

module _ {X : Type 0} (p : X → Bool) (f : X → X) (kept : (x : X) → p x ≡ true → p (f x) ≡ true) where
  -- Where each that passes does so behind the change, no fewer pass.
  pub no_fewer : (xs : List X) → count_by p xs ≤ count_by p (map f xs)
  no_fewer [] = omega arith
  no_fewer (x ∷ xs) =
      let first = no_less (p x) (p (f x)) (kept x) in
      let rest = no_fewer xs in
      let before = count-cons p x xs in
      let behind = count-cons p (f x) (map f xs) in
      omega (arith, first, rest, before, behind)

  -- Where one passes that didn't, more do.
  pub one_more : (xs : List X) (place : ℕ) (x : X) → slice_get xs place ≡ Some x → p x ≡ false → p (f x) ≡ true → count_by p xs + 1 ≤ count_by p (map f xs)
  one_more [] place x at fails passes = absurd cc
  one_more (y ∷ xs) zero x at fails passes =
      let same : y ≡ x = cc in
      let rest = no_fewer xs in
      let before = count-cons p y xs in
      let behind = count-cons p (f y) (map f xs) in
      let none : ◌≡◌ {A = ℕ} (cond (p y) 1 0) 0 = ap (λ (b : Bool). cond b 1 0) (ap p same ∙ fails) in
      let one : ◌≡◌ {A = ℕ} (cond (p (f y)) 1 0) 1 = ap (λ (b : Bool). cond b 1 0) (ap (λ (item : X). p (f item)) same ∙ passes) in
      omega (arith, rest, before, behind, none, one)
  one_more (y ∷ xs) (suc place) x at fails passes =
      let first = no_less (p y) (p (f y)) (kept y) in
      let rest = one_more xs place x at fails passes in
      let before = count-cons p y xs in
      let behind = count-cons p (f y) (map f xs) in
      omega (arith, first, rest, before, behind)
