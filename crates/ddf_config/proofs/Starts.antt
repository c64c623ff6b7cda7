-- The least multiple that passes a test, and extents that meet.
use Rattle.std.proofs.Common.{◌≡◌, ℕ, zero, suc, ◌+◌, ◌<◌, ◌≤◌, Bool, true, false, List, Some, None, map, min, max, ⊎_elim, refl, ap, ◌∙◌, find, arith}
use Rattle.std.specs.List.{range_with_len, list_any}
use Rattle.std.proofs.lemmas.Bool.{cases_eq, cond-true, cond-false, lt-ltb, ltb-true, le-leb}
use Rattle.ddf_config.specs.Room.{meets, is_free}

module _ {X : Type 0} (test : X → Bool) (g : ℕ → X) where
  pub find_in_range : (first n k : ℕ) → first ≤ k → k < first + n → ((j : ℕ) → first ≤ j → j < k → test (g j) ≡ false) → test (g k) ≡ true → find test (map g (range_with_len first n)) ≡ Some (g k)
  find_in_range first zero k low high before passes = absurd (omega arith)
  find_in_range first (suc n) k low high before passes =
      ⊎_elim
      (λ (e : first ≡ k). let here : test (g first) ≡ true = rw e passes in cond-true _ _ _ here ∙ ap (λ j. Some (g j)) e)
      (λ (ne : first ≡ k → ⊥).
      cond-false _ _ _ (before first (omega arith) (omega (arith, ne)))
      ∙ find_in_range (first + 1) n k (omega (arith, ne)) (omega arith) (λ j at_least below. before j (omega arith) below) passes)
      (cases_eq first k)

  pub find_none_in_range : (first n : ℕ) → ((j : ℕ) → first ≤ j → j < first + n → test (g j) ≡ false) → find test (map g (range_with_len first n)) ≡ None
  find_none_in_range first zero none = refl
  find_none_in_range first (suc n) none =
      cond-false _ _ _ (none first (omega arith) (omega arith))
      ∙ find_none_in_range (first + 1) n (λ j at_least below. none j (omega arith) (omega arith))

-- a later start before the end of an extent that was met meets it too
pub meets_later : (start later blocks : ℕ) (x : ℕ × ℕ) → meets start blocks x ≡ true → start ≤ later → later < x.0 + x.1 → meets later blocks x ≡ true
meets_later start later blocks x met after before =
    let h : max start x.0 < min (start + blocks) (x.0 + x.1) = ltb-true _ _ met in
    lt-ltb _ _ (omega arith)

pub meets_before_end : (start blocks : ℕ) (x : ℕ × ℕ) → meets start blocks x ≡ true → start < x.0 + x.1
meets_before_end start blocks x met =
    let h : max start x.0 < min (start + blocks) (x.0 + x.1) = ltb-true _ _ met in
    omega arith

pub free_yes : (taken : List (ℕ × ℕ)) (size blocks start : ℕ) → start + blocks ≤ size → list_any (meets start blocks) taken ≡ false → is_free taken size blocks start ≡ true
free_yes taken size blocks start within apart = rw (le-leb (start + blocks) size within, apart) refl

pub free_no : (taken : List (ℕ × ℕ)) (size blocks start : ℕ) → list_any (meets start blocks) taken ≡ true → is_free taken size blocks start ≡ false
free_no taken size blocks start met = grind arith

pub free_past : (taken : List (ℕ × ℕ)) (size blocks start : ℕ) → size < start + blocks → is_free taken size blocks start ≡ false
free_past taken size blocks start past = grind (arith)
