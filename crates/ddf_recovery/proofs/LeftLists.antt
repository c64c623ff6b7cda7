-- Lists of which tests keep items, and pairs of which nothing is found.
use Rattle.std.proofs.Common.{◌≡◌, ◌≢◌, ◌⊎◌, ℕ, zero, suc, ◌+◌, ◌<◌, ◌≤◌, Bool, true, false, List, [], ◌∷◌, Option, Some, None, refl, ap, sym, ◌∙◌, inl, inr, arith, subst}
use Rattle.std.proofs.lemmas.Bool.{cases_eq, cond-false, cond-true}
use Rattle.std.specs.Prelude.{filter, find, slice_get}
use Rattle.std.specs.List.{AllByRecursion, range_with_len}
use Rattle.std.specs.Option.{option_or}
use Rattle.ddf_lemmas.proofs.Options.{none_of_both}
use Rattle.ddf_group.specs.Pairs.{first_pair, first_with}
use Rattle.ddf_assembly.proofs.SettledSeats.{Rise}

-- ---- numbers that rise

-- A number is none of these.
abbrev pub IsNoneOf : List ℕ → ℕ → Type 0
IsNoneOf xs n = AllByRecursion (λ x. n ≢ x) xs

-- A number is one of these, or none.
pub one_or_none : (xs : List ℕ) (n : ℕ) → ((k : ℕ) × (slice_get xs k ≡ Some n)) ⊎ IsNoneOf xs n
one_or_none [] n = inr tt
one_or_none (x ∷ xs) n = elim (cases_eq n x) [
  | inl same ↦ inl (0, ap (λ (m : ℕ). Some m) (sym same))
  | inr differ ↦ elim (one_or_none xs n) [
    | inl found ↦ inl (suc found.0, found.1)
    | inr none ↦ inr (differ, none)
  ]
]

-- What is below others is none of them.
below_none : (n : ℕ) (xs : List ℕ) → AllByRecursion (λ x. n < x) xs → IsNoneOf xs n
below_none n [] all = tt
below_none n (x ∷ xs) all = (λ (same : n ≡ x). let below = all.0 in omega (arith, below, same), below_none n xs all.1)

-- Numbers above another one are not below the next.
above_next : (n : ℕ) (xs : List ℕ) → AllByRecursion (λ x. n < x) xs → AllByRecursion (λ x. n + 1 ≤ x) xs
above_next n [] all = tt
above_next n (x ∷ xs) all = (let below = all.0 in omega (arith, below), above_next n xs all.1)

-- What is below the first of numbers that rise is below all.
below_all : (n x : ℕ) (xs : List ℕ) → n < x → AllByRecursion (λ y. x < y) xs → AllByRecursion (λ y. n < y) xs
below_all n x [] below all = tt
below_all n x (y ∷ ys) below all = (let above = all.0 in omega (arith, below, above), below_all n x ys below all.1)

-- Numbers below an end are below it where it is written otherwise.
same_end : (end other : ℕ) → end ≡ other → (xs : List ℕ) → AllByRecursion (λ x. x < end) xs → AllByRecursion (λ x. x < other) xs
same_end end other same xs all = subst (λ (n : ℕ). AllByRecursion (λ x. x < n) xs) same all

-- A test that passes numbers that rise, and no others, keeps these of a range.
pub keeps_these : (test : ℕ → Bool) (first count : ℕ) (xs : List ℕ) → Rise xs → AllByRecursion (λ x. first ≤ x) xs → AllByRecursion (λ x. x < first + count) xs
    → AllByRecursion (λ x. test x ≡ true) xs → ((n : ℕ) → first ≤ n → IsNoneOf xs n → test n ≡ false) → filter test (range_with_len first count) ≡ xs
keeps_these test first zero [] rise from to passes fails = refl
keeps_these test first zero (x ∷ xs) rise from to passes fails = let low = from.0 in let high = to.0 in absurd (omega (arith, low, high))
keeps_these test first (suc count) [] rise from to passes fails =
    cond-false (test first) (first ∷ filter test (range_with_len (first + 1) count)) (filter test (range_with_len (first + 1) count)) (fails first (omega arith) tt)
    ∙ keeps_these test (first + 1) count [] tt tt tt tt (λ n low none. fails n (omega (arith, low)) none)
keeps_these test first (suc count) (x ∷ xs) rise from to passes fails = elim (cases_eq first x) [
  | inl same ↦
      cond-true (test first) (first ∷ filter test (range_with_len (first + 1) count)) (filter test (range_with_len (first + 1) count)) (ap test same ∙ passes.0)
      ∙ ap (λ (l : List ℕ). first ∷ l)
      (keeps_these test (first + 1) count xs rise.1
      (above_next first xs (subst (λ (n : ℕ). AllByRecursion (λ y. n < y) xs) (sym same) rise.0))
      (same_end (first + suc count) (first + 1 + count) (omega arith) xs to.1)
      passes.1
      (λ n low none. fails n (omega (arith, low)) (λ (is : n ≡ x). omega (arith, low, is, same), none)))
      ∙ ap (λ (n : ℕ). n ∷ xs) same
  | inr differ ↦
      let low = from.0 in
      let below : first < x = omega (arith, low, differ) in
      let above = below_all first x xs below rise.0 in
      cond-false (test first) (first ∷ filter test (range_with_len (first + 1) count)) (filter test (range_with_len (first + 1) count))
      (fails first (omega arith) (below_none first (x ∷ xs) (below, above)))
      ∙ keeps_these test (first + 1) count (x ∷ xs) rise (above_next first (x ∷ xs) (below, above))
      (same_end (first + suc count) (first + 1 + count) (omega arith) (x ∷ xs) to)
      passes (λ n low none. fails n (omega (arith, low)) none)
]

-- ---- what is found of no item

-- Where each item fails a test, none is found.
pub find_fails : {X : Type 0} (test : X → Bool) → ((x : X) → test x ≡ false) → (xs : List X) → find test xs ≡ None
find_fails test fails [] = refl
find_fails test fails (x ∷ xs) = cond-false (test x) (Some x) (find test xs) (fails x) ∙ find_fails test fails xs

-- The first of two isn't there where neither is.
none_or : {Y : Type 0} (one other : Option Y) → one ≡ None → other ≡ None → option_or one other ≡ None
none_or one other h k = ap (λ found. option_or found other) h ∙ k

-- Where nothing is found of any item, nothing is found of the list.
pub with_none : {X Y : Type 0} (test : X → Option Y) (xs : List X) → ((j : ℕ) (y : X) → slice_get xs j ≡ Some y → test y ≡ None) → first_with test xs ≡ None
with_none test [] none = refl
with_none test (x ∷ xs) none = none_or (test x) (first_with test xs) (none 0 x refl) (with_none test xs (λ j. none (suc j)))

-- Nor of its pairs, where nothing is found of any two items.
pub pair_none : {X Y : Type 0} (test : X → X → Option Y) (xs : List X) → ((i j : ℕ) (x y : X) → slice_get xs i ≡ Some x → slice_get xs j ≡ Some y → test x y ≡ None)
    → first_pair test xs ≡ None
pair_none test [] none = refl
pair_none test (x ∷ xs) none =
    none_or (first_with (test x) xs) (first_pair test xs) (with_none (test x) xs (λ j y at. none 0 (suc j) x y refl at))
    (pair_none test xs (λ i j. none (suc i) (suc j)))

-- What is found of none that one test keeps is found of none that another keeps, where these pass the first.
with_kept : {X Y : Type 0} (test other : X → Option Y) (keep among : X → Bool) (xs : List X) → ((x : X) → keep x ≡ true → among x ≡ true)
    → ((x : X) → keep x ≡ true → other x ≡ None → test x ≡ None) → first_with other (filter among xs) ≡ None → first_with test (filter keep xs) ≡ None
with_kept test other keep among [] within gives none = refl
with_kept test other keep among (x ∷ xs) within gives none = go (with_kept test other keep among xs within gives) (keep x) refl (among x) refl
  where
    go : (first_with other (filter among xs) ≡ None → first_with test (filter keep xs) ≡ None) → (b : Bool) → keep x ≡ b → (c : Bool) → among x ≡ c → first_with test (filter keep (x ∷ xs)) ≡ None
    go later true e c f =
        let both = none_of_both (other x) (first_with other (filter among xs)) (sym (ap (first_with other) (cond-true (among x) (x ∷ filter among xs) (filter among xs) (within x e))) ∙ none) in
        ap (first_with test) (cond-true (keep x) (x ∷ filter keep xs) (filter keep xs) e)
        ∙ none_or (test x) (first_with test (filter keep xs)) (gives x e both.0) (later both.1)
    go later false e true f =
        let both = none_of_both (other x) (first_with other (filter among xs)) (sym (ap (first_with other) (cond-true (among x) (x ∷ filter among xs) (filter among xs) f)) ∙ none) in
        ap (first_with test) (cond-false (keep x) (x ∷ filter keep xs) (filter keep xs) e) ∙ later both.1
    go later false e false f =
        ap (first_with test) (cond-false (keep x) (x ∷ filter keep xs) (filter keep xs) e)
        ∙ later (sym (ap (first_with other) (cond-false (among x) (x ∷ filter among xs) (filter among xs) f)) ∙ none)

-- So it is with pairs.
pub pair_kept : {X Y : Type 0} (test other : X → X → Option Y) (keep among : X → Bool) (xs : List X) → ((x : X) → keep x ≡ true → among x ≡ true)
    → ((x y : X) → keep x ≡ true → keep y ≡ true → other x y ≡ None → test x y ≡ None) → first_pair other (filter among xs) ≡ None → first_pair test (filter keep xs) ≡ None
pair_kept test other keep among [] within gives none = refl
pair_kept test other keep among (x ∷ xs) within gives none = go (pair_kept test other keep among xs within gives) (keep x) refl (among x) refl
  where
    go : (first_pair other (filter among xs) ≡ None → first_pair test (filter keep xs) ≡ None) → (b : Bool) → keep x ≡ b → (c : Bool) → among x ≡ c → first_pair test (filter keep (x ∷ xs)) ≡ None
    go later true e c f =
        let both = none_of_both (first_with (other x) (filter among xs)) (first_pair other (filter among xs)) (sym (ap (first_pair other) (cond-true (among x) (x ∷ filter among xs) (filter among xs) (within x e))) ∙ none) in
        ap (first_pair test) (cond-true (keep x) (x ∷ filter keep xs) (filter keep xs) e)
        ∙ none_or (first_with (test x) (filter keep xs)) (first_pair test (filter keep xs))
        (with_kept (test x) (other x) keep among xs within (λ y k. gives x y e k) both.0) (later both.1)
    go later false e true f =
        let both = none_of_both (first_with (other x) (filter among xs)) (first_pair other (filter among xs)) (sym (ap (first_pair other) (cond-true (among x) (x ∷ filter among xs) (filter among xs) f)) ∙ none) in
        ap (first_pair test) (cond-false (keep x) (x ∷ filter keep xs) (filter keep xs) e) ∙ later both.1
    go later false e false f =
        ap (first_pair test) (cond-false (keep x) (x ∷ filter keep xs) (filter keep xs) e)
        ∙ later (sym (ap (first_pair other) (cond-false (among x) (x ∷ filter among xs) (filter among xs) f)) ∙ none)
