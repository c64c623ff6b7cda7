-- Lists without some of their items.
use Rattle.std.proofs.Common.{◌≡◌, ℕ, zero, suc, Bool, true, false, ◌||◌, cond, List, [], ◌∷◌, map, filter, Some, refl, ap, ◌∙◌, arith}
use Rattle.std.proofs.lemmas.Bool.{cond-false, cond-true}
use Rattle.std.specs.Prelude.{slice_get, slice_set}
use Rattle.std.specs.List.{list_any}

-- ---- one item that is set

pub set_here : {X : Type 0} (xs : List X) (i : ℕ) (x y : X) → slice_get (slice_set xs i x) i ≡ Some y → x ≡ y
set_here [] i x y at = absurd cc
set_here (z ∷ zs) zero x y at = cc
set_here (z ∷ zs) (suc i) x y at = set_here zs i x y at

-- ---- what a test keeps

-- A list that has an item begins with one.
pub begins : {X : Type 0} (xs : List X) (k : ℕ) (x : X) → slice_get xs k ≡ Some x → (first : X) × (rest : List X) × (xs ≡ first ∷ rest)
begins [] k x at = absurd cc
begins (y ∷ ys) k x at = (y, ys, refl)

-- Of what is made of items a test keeps what is made of those that it keeps.
pub map_kept : {X Y : Type 0} (f : X → Y) (test : Y → Bool) (xs : List X) → map f (filter (λ x. test (f x)) xs) ≡ filter test (map f xs)
map_kept f test [] = refl
map_kept {Y = Y} f test (x ∷ xs) = by (test (f x)) (map_kept f test xs)
  where
    by : (b : Bool) → map f (filter (λ y. test (f y)) xs) ≡ filter test (map f xs) → map f (cond b (x ∷ filter (λ y. test (f y)) xs) (filter (λ y. test (f y)) xs)) ≡ cond b (f x ∷ filter test (map f xs)) (filter test (map f xs))
    by true rest = ap (λ (ys : List Y). f x ∷ ys) rest
    by false rest = rest

-- Where no item passes none is kept.
pub kept_none : {X : Type 0} (test : X → Bool) (xs : List X) → ((i : ℕ) (y : X) → slice_get xs i ≡ Some y → test y ≡ true → ⊥) → filter test xs ≡ []
kept_none test [] none = refl
kept_none {X = X} test (x ∷ xs) none = by (test x) refl (kept_none test xs (λ i. none (suc i)))
  where
    by : (b : Bool) → test x ≡ b → filter test xs ≡ [] → filter test (x ∷ xs) ≡ []
    by true e rest = absurd (none 0 x refl e)
    by false e rest = cond-false (test x) (x ∷ filter test xs) (filter test xs) e ∙ rest

-- Where one item passes, it alone is kept.
pub kept_one : {X : Type 0} (test : X → Bool) (xs : List X) (place : ℕ) (x : X) → slice_get xs place ≡ Some x → test x ≡ true
    → ((i : ℕ) (y : X) → slice_get xs i ≡ Some y → test y ≡ true → i ≡ place) → filter test xs ≡ x ∷ []
kept_one test [] place x at passes only = absurd cc
kept_one {X = X} test (y ∷ ys) zero x at passes only =
    let same : y ≡ x = cc in
    cond-true (test y) (y ∷ filter test ys) (filter test ys) (ap test same ∙ passes)
    ∙ ap (λ (rest : List X). y ∷ rest) (kept_none test ys (λ i z there kept. let place : suc i ≡ 0 = only (suc i) z there kept in omega (arith, place)))
    ∙ ap (λ (one : X). one ∷ []) same
kept_one {X = X} test (y ∷ ys) (suc place) x at passes only =
    by (test y) refl (kept_one test ys place x at passes (λ i z there kept. let place_is : suc i ≡ suc place = only (suc i) z there kept in omega (arith, place_is)))
  where
    by : (b : Bool) → test y ≡ b → filter test ys ≡ x ∷ [] → filter test (y ∷ ys) ≡ x ∷ []
    by true e rest = let here : 0 ≡ suc place = only 0 y refl e in absurd (omega (arith, here))
    by false e rest = cond-false (test y) (y ∷ filter test ys) (filter test ys) e ∙ rest

-- No item of a list passes.
pub any_none : {X : Type 0} (test : X → Bool) (xs : List X) → ((i : ℕ) (x : X) → slice_get xs i ≡ Some x → test x ≡ false) → list_any test xs ≡ false
any_none test [] fails = refl
any_none test (x ∷ xs) fails = ap (λ b. b || list_any test xs) (fails 0 x refl) ∙ any_none test xs (λ i. fails (suc i))
