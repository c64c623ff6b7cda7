-- Tests over a list, by the count of its items that fail.
use Rattle.std.proofs.Common.{◌≡◌, ℕ, suc, ◌+◌, ◌≤◌, Bool, true, false, not, ◌||◌, cond, List, [], ◌∷◌, length, refl, ap, ◌∙◌, arith, zero-add}
use Rattle.std.specs.Prelude.{count_by, nat_lt}
use Rattle.std.specs.List.{list_any}
use Rattle.std.proofs.lemmas.Bool.{le-ltb, lt-ltb, ltb-false, ltb-true}
use Rattle.std.proofs.lemmas.List.Sums.{count_by-le-length, sum_by-cons}

one_more : (f n : ℕ) (rest : Bool) → nat_lt f n ≡ rest → nat_lt (1 + f) (suc n) ≡ rest
one_more f n true e = let lt = ltb-true f n e in lt-ltb (1 + f) (suc n) (omega (arith, lt))
one_more f n false e = let le = ltb-false f n e in le-ltb (1 + f) (suc n) (omega (arith, le))

some_by : (passes : Bool) (f n : ℕ) (rest : Bool) → f ≤ n → nat_lt f n ≡ rest → nat_lt (cond (not passes) 1 0 + f) (suc n) ≡ (passes || rest)
some_by true f n rest le e = lt-ltb (0 + f) (suc n) (omega arith)
some_by false f n rest le e = one_more f n rest e

fails_by : (passes : Bool) (f : ℕ) (rest : Bool) → nat_lt 0 f ≡ rest → nat_lt 0 (cond (not passes) 1 0 + f) ≡ (not passes || rest)
fails_by true f rest e = ap (nat_lt 0) (zero-add f) ∙ e
fails_by false f rest e = lt-ltb 0 (1 + f) (omega arith)

module _ {X : Type 0} (p : X → Bool) where
  -- those that fail
  abbrev failing : List X → ℕ
  failing xs = count_by (λ (x : X). not (p x)) xs

  failing_more : (x : X) (xs : List X) → failing (x ∷ xs) ≡ cond (not (p x)) 1 0 + failing xs
  failing_more x xs = sum_by-cons (λ (y : X). cond (not (p y)) 1 0) x xs

  -- fewer than all fail where some pass
  pub some_pass : (xs : List X) → nat_lt (failing xs) (length xs) ≡ list_any p xs
  some_pass [] = refl
  some_pass (x ∷ xs) =
      ap (λ (n : ℕ). nat_lt n (suc (length xs))) (failing_more x xs)
      ∙ some_by (p x) (failing xs) (length xs) (list_any p xs) (count_by-le-length (λ (y : X). not (p y)) xs) (some_pass xs)

  pub some_fail : (xs : List X) → nat_lt 0 (failing xs) ≡ list_any (λ (x : X). not (p x)) xs
  some_fail [] = refl
  some_fail (x ∷ xs) = ap (nat_lt 0) (failing_more x xs) ∙ fails_by (p x) (failing xs) (list_any (λ (y : X). not (p y)) xs) (some_fail xs)
