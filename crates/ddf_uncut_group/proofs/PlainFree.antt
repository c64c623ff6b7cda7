-- How many numbers of a range are none of these.
use Rattle.std.proofs.Common.{◌≡◌, ℕ, zero, suc, ◌+◌, ◌<◌, ◌≤◌, ◌==◌, ◌||◌, Bool, true, false, cond, if◌then◌else◌, List, [], ◌∷◌, length, Option, Some, None, refl, ap, inl, inr, arith, filter_map}
use Rattle.std.proofs.lemmas.Bool.{cases_eq, eq-eqb, ne_eqb}
use Rattle.std.specs.List.{AllByRecursion, cons_option, enumerate_from, list_any}
use Rattle.std.specs.Option.{option_map_or}

-- ---- numbers that fail a test

-- how many of so many numbers, from one on, fail a test
abbrev pub failing : (test : ℕ → Bool) → (from count : ℕ) → ℕ
failing test from zero = 0
failing test from (suc count) = (if test from then 0 else 1) + failing test (from + 1) count

-- a test that passes one number more
abbrev or_is : (number : ℕ) → (ℕ → Bool) → ℕ → Bool
or_is number test other = (number == other) || test other

-- Past that number as many fail.
past_it : (test : ℕ → Bool) (number from count : ℕ) → number < from → failing (or_is number test) from count ≡ failing test from count
past_it test number from zero below = refl
past_it test number from (suc count) below =
    let differs : (number == from) ≡ false = ne_eqb number from (λ (e : number ≡ from). absurd (omega (arith, e, below))) in
    let rest = past_it test number (from + 1) count (omega (arith, below)) in
    rw (differs, rest) refl

-- At most one fails less.
one_fewer : (test : ℕ → Bool) (number from count : ℕ) → failing test from count ≤ failing (or_is number test) from count + 1
one_fewer test number from zero = omega arith
one_fewer test number from (suc count) = elim (cases_eq number from) [
  | inl same ↦
      let passes : (number == from) ≡ true = eq-eqb number from same in
      let rest = past_it test number (from + 1) count (omega (arith, same)) in
      rw passes (by (test from) (failing test (from + 1) count) (failing (or_is number test) (from + 1) count) rest)
  | inr differ ↦
      let fails : (number == from) ≡ false = ne_eqb number from differ in
      let rest = one_fewer test number (from + 1) count in
      rw fails (omega (arith, rest))
]
  where
    by : (passes : Bool) (all others : ℕ) → others ≡ all → cond passes 0 1 + all ≤ 0 + others + 1
    by true all others same = omega (arith, same)
    by false all others same = omega (arith, same)

-- Where none passes all fail.
all_fail : (from count : ℕ) → failing (λ number. false) from count ≡ count
all_fail from zero = refl
all_fail from (suc count) = let rest = all_fail (from + 1) count in omega (arith, rest)

-- All are one of these or fail to be.
pub one_or_failing : (taken : List ℕ) (from count : ℕ) → count ≤ failing (λ number. list_any (λ one. one == number) taken) from count + length taken
one_or_failing [] from count = let all = all_fail from count in omega (arith, all)
one_or_failing (one ∷ taken) from count =
    let rest = one_or_failing taken from count in
    let fewer = one_fewer (λ number. list_any (λ other. other == number) taken) one from count in
    omega (arith, rest, fewer)

-- ---- items in places

-- where some of these items stand
pub is_taken : {X : Type 0} (stands : X → Option ℕ) (items : List X) (number : ℕ)
    → list_any (λ item. option_map_or (λ place. place == number) (stands item) false) items ≡ list_any (λ one. one == number) (filter_map stands items)
is_taken stands [] number = refl
is_taken {X} stands (item ∷ items) number = by (stands item) (is_taken stands items number)
  where
    by : (place : Option ℕ) → list_any (λ (item : X). option_map_or (λ place. place == number) (stands item) false) items ≡ list_any (λ one. one == number) (filter_map stands items)
        → (option_map_or (λ place. place == number) place false || list_any (λ (item : X). option_map_or (λ place. place == number) (stands item) false) items)
        ≡ list_any (λ one. one == number) (cons_option place (filter_map stands items))
    by None rest = rest
    by (Some one) rest = ap (λ passes. (one == number) || passes) rest

-- no more stand than there are
pub few_stand : {X : Type 0} (stands : X → Option ℕ) (items : List X) → length (filter_map stands items) ≤ length items
few_stand stands [] = omega arith
few_stand {X} stands (item ∷ items) = by (stands item) (few_stand stands items)
  where
    by : (place : Option ℕ) → length (filter_map stands items) ≤ length items → length (cons_option place (filter_map stands items)) ≤ suc (length items)
    by None rest = omega (arith, rest)
    by (Some one) rest = omega (arith, rest)

-- the number of an item, where no test excludes it
abbrev pub free_place : {X : Type 0} (excluded : X → Bool) (test : ℕ → Bool) → (ℕ × X) → Option ℕ
free_place excluded test pair = if excluded pair.1 || test pair.0 then None else Some pair.0

-- those of all items
pub free_places : {X : Type 0} (excluded : X → Bool) (test : ℕ → Bool) (from : ℕ) (xs : List X) → AllByRecursion (λ x. excluded x ≡ false) xs
    → length (filter_map (free_place excluded test) (enumerate_from from xs)) ≡ failing test from (length xs)
free_places excluded test from [] none = refl
free_places {X} excluded test from (x ∷ xs) none =
    let own = none.0 in
    rw own (by (test from) (filter_map (free_place excluded test) (enumerate_from (from + 1) xs)) (free_places excluded test (from + 1) xs none.1))
  where
    by : (passes : Bool) (others : List ℕ) → length others ≡ failing test (from + 1) (length xs)
        → length (cons_option (if passes then None else Some from) others) ≡ cond passes 0 1 + failing test (from + 1) (length xs)
    by true others rest = omega (arith, rest)
    by false others rest = omega (arith, rest)
