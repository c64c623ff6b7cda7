-- Items of lists that are made of others.
use Rattle.std.proofs.Common.{◌≡◌, ◌∙◌, ℕ, zero, suc, List, [], ◌∷◌, Bool, true, false, Option, Some, refl, sym, ap, slice_get, ◌||◌}
use Rattle.std.specs.Prelude.{find, if◌then◌else◌}
use Rattle.std.specs.List.{list_any}

-- items that pass a test
pub record Passes {X : Type 0} (test : X → Bool) (xs : List X) : Type 0 where
  pub at : ℕ
  pub item : X
  pub is_at : slice_get xs at ≡ Some item
  pub passes : test item ≡ true

passing_by : {X : Type 0} (test : X → Bool) (y : X) (xs : List X) (b : Bool) → test y ≡ b → (b || list_any test xs) ≡ true → (list_any test xs ≡ true → Passes test xs) → Passes test (y ∷ xs)
passing_by test y xs true is any rest = record { at = 0; item = y; is_at = refl; passes = is }
passing_by test y xs false is any rest =
    let later = rest any in record { at = suc later.at; item = later.item; is_at = later.is_at; passes = later.passes }

pub passing : {X : Type 0} (test : X → Bool) (xs : List X) → list_any test xs ≡ true → Passes test xs
passing test [] any = absurd (cc)
passing test (y ∷ xs) any = passing_by test y xs (test y) refl any (passing test xs)

-- the only one that passes is found
find_by : {X : Type 0} (test : X → Bool) (y x : X) (b : Bool) (rest : Option X) → test y ≡ b → (test y ≡ true → y ≡ x) → (b ≡ false → rest ≡ Some x) → (if b then Some y else rest) ≡ Some x
find_by test y x true rest is only later = ap Some (only is)
find_by test y x false rest is only later = later refl

pub finds : {X : Type 0} (test : X → Bool) (xs : List X) (k : ℕ) (x : X) → slice_get xs k ≡ Some x → test x ≡ true → ((y : X) → test y ≡ true → y ≡ x) → find test xs ≡ Some x
finds test [] k x e is only = absurd (cc)
finds test (y ∷ xs) zero x e is only =
    let same : y ≡ x = cc in find_by test y x (test y) (find test xs) refl (λ passes. only y passes) (λ fails. absurd (differ (sym (ap test same ∙ is) ∙ fails)))
  where
    differ : true ≡ false → ⊥
    differ e = cc
finds test (y ∷ xs) (suc k) x e is only = find_by test y x (test y) (find test xs) refl (λ passes. only y passes) (λ fails. finds test xs k x e is only)
