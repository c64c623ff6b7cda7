-- Searches through numbers in rising order.
use Rattle.std.proofs.Common.{◌≡◌, ◌⊎◌, ℕ, zero, suc, ◌+◌, ◌<◌, ◌≤◌, Bool, true, false, Option, Some, None, option_map, refl, ap, sym, ◌∙◌, inl, inr, arith}
use Rattle.std.proofs.lemmas.Bool.{cases_eq, cases_lt, and_from, and_parts, false≢true}
use Rattle.std.specs.Prelude.{filter, find}
use Rattle.std.specs.List.{list_all, list_any, range_with_len}
use Rattle.std.specs.Option.{option_or}
use Rattle.ddf_group.specs.Pairs.{first_pair, first_with}

-- ---- one of two

-- Where one of two values is there, it is the first or the second.
pub or_some : {X : Type 0} (o p : Option X) (x : X) → option_or o p ≡ Some x → (o ≡ Some x) ⊎ (p ≡ Some x)
or_some None p x there = inr there
or_some (Some y) p x there = inl there

-- Where neither of two values is there, the first is not.
pub or_none_first : {X : Type 0} (o p : Option X) → option_or o p ≡ None → o ≡ None
or_none_first None p none = refl
or_none_first (Some x) p none = absurd cc

-- Where neither of two values is there, the second is not.
pub or_none_second : {X : Type 0} (o p : Option X) → option_or o p ≡ None → p ≡ None
or_none_second None p none = none
or_none_second (Some x) p none = absurd cc

-- What is made of a value is there where the value is.
pub map_some : {X Y : Type 0} (f : X → Y) (o : Option X) (y : Y) → option_map f o ≡ Some y → (x : X) × (o ≡ Some x) × (f x ≡ y)
map_some f None y there = absurd cc
map_some f (Some x) y there = (x, refl, cc)

-- ---- a test of numbers

module _ (test : ℕ → Bool) where
  -- Each number passes where all do.
  all_from : (start count : ℕ) → list_all test (range_with_len start count) ≡ true → (i : ℕ) → start ≤ i → i < start + count → test i ≡ true
  all_from start zero all i low below = absurd (omega arith)
  all_from start (suc count) all i low below =
      let parts = and_parts (test start) (list_all test (range_with_len (start + 1) count)) all in
      elim (cases_eq i start) [
        | inl here ↦ ap test here ∙ parts.0
        | inr there ↦ all_from (start + 1) count parts.1 i (omega arith) (omega arith)
      ]

  -- All pass where each number does.
  from_all : (start count : ℕ) → ((i : ℕ) → start ≤ i → i < start + count → test i ≡ true) → list_all test (range_with_len start count) ≡ true
  from_all start zero each = refl
  from_all start (suc count) each =
      and_from (test start) (list_all test (range_with_len (start + 1) count)) (each start (omega arith) (omega arith)) (from_all (start + 1) count (λ i low below. each i (omega arith) (omega (arith, below))))

  -- Each number below a bound passes where all do.
  pub each_below : (count : ℕ) → list_all test (range_with_len 0 count) ≡ true → (i : ℕ) → i < count → test i ≡ true
  each_below count all i below = all_from 0 count all i (omega arith) (omega (arith, below))

  -- All numbers below a bound pass where each does.
  pub all_below : (count : ℕ) → ((i : ℕ) → i < count → test i ≡ true) → list_all test (range_with_len 0 count) ≡ true
  all_below count each = from_all 0 count (λ i low below. each i (omega (arith, below)))

  -- Where some number from a start on passes, there is one.
  any_from : (start count : ℕ) → list_any test (range_with_len start count) ≡ true → (i : ℕ) × (test i ≡ true)
  any_from start zero any = absurd cc
  any_from start (suc count) any = go (any_from (start + 1) count) (test start) refl
    where
      go : (list_any test (range_with_len (start + 1) count) ≡ true → (i : ℕ) × (test i ≡ true)) → (b : Bool) → test start ≡ b → (i : ℕ) × (test i ≡ true)
      go later true is = (start, is)
      go later false is = later (rw is at any)

  -- Where none from a start on does, each fails.
  none_from : (start count : ℕ) → list_any test (range_with_len start count) ≡ false → (i : ℕ) → start ≤ i → i < start + count → test i ≡ false
  none_from start zero none i low below = absurd (omega arith)
  none_from start (suc count) none i low below = go (none_from (start + 1) count) (test start) refl
    where
      go : (list_any test (range_with_len (start + 1) count) ≡ false → (i : ℕ) → start + 1 ≤ i → i < start + 1 + count → test i ≡ false) → (b : Bool) → test start ≡ b → test i ≡ false
      go later true is = absurd (let no = rw is at none in cc)
      go later false is = elim (cases_eq i start) [
        | inl here ↦ ap test here ∙ is
        | inr there ↦ later (rw is at none) i (omega arith) (omega arith)
      ]

  -- Where some number below a bound passes, there is one.
  pub some_below : (count : ℕ) → list_any test (range_with_len 0 count) ≡ true → (i : ℕ) × (test i ≡ true)
  some_below count any = any_from 0 count any

  -- Where none below a bound does, each fails.
  pub none_below : (count : ℕ) → list_any test (range_with_len 0 count) ≡ false → (i : ℕ) → i < count → test i ≡ false
  none_below count none i below = none_from 0 count none i (omega arith) (omega (arith, below))

  -- ---- the first number that passes

  -- It passes, and none between a start and it does.
  abbrev IsFirstFrom : ℕ → ℕ → Type 0
  IsFirstFrom start i = (test i ≡ true) × ((j : ℕ) → start ≤ j → j < i → test j ≡ false)

  -- What is found from a start on is the first that passes.
  found_from : (start count i : ℕ) → find test (range_with_len start count) ≡ Some i → IsFirstFrom start i
  found_from start zero i found = absurd cc
  found_from start (suc count) i found = go (found_from (start + 1) count i) (test start) refl
    where
      go : (find test (range_with_len (start + 1) count) ≡ Some i → IsFirstFrom (start + 1) i) → (b : Bool) → test start ≡ b → IsFirstFrom start i
      go later true is =
          let one : Some start ≡ Some i = rw is at found in
          let same : start ≡ i = cc in
          (ap test (sym same) ∙ is, λ j low below. absurd (omega (arith, same)))
      go later false is =
          let rest = later (rw is at found) in (
            rest.0,
            λ j low below. elim (cases_eq j start) [
              | inl here ↦ ap test here ∙ is
              | inr there ↦ rest.1 j (omega arith) below
            ],
          )

  -- Where nothing is found from a start on, each number fails.
  missed_from : (start count : ℕ) → find test (range_with_len start count) ≡ None → (i : ℕ) → start ≤ i → i < start + count → test i ≡ false
  missed_from start zero none i low below = absurd (omega arith)
  missed_from start (suc count) none i low below = go (missed_from (start + 1) count) (test start) refl
    where
      go : (find test (range_with_len (start + 1) count) ≡ None → (i : ℕ) → start + 1 ≤ i → i < start + 1 + count → test i ≡ false) → (b : Bool) → test start ≡ b → test i ≡ false
      go later true is = absurd (let no = rw is at none in cc)
      go later false is = elim (cases_eq i start) [
        | inl here ↦ ap test here ∙ is
        | inr there ↦ later (rw is at none) i (omega arith) (omega arith)
      ]

  -- What is found passes.
  pub found_passes : (count i : ℕ) → find test (range_with_len 0 count) ≡ Some i → test i ≡ true
  found_passes count i found = (found_from 0 count i found).0

  -- No number below it does.
  pub found_first : (count i : ℕ) → find test (range_with_len 0 count) ≡ Some i → (j : ℕ) → test j ≡ true → i ≤ j
  found_first count i found j passes = elim (cases_lt j i) [
    | inl less ↦ absurd (false≢true (sym ((found_from 0 count i found).1 j (omega arith) less) ∙ passes))
    | inr more ↦ more
  ]

  -- Where nothing is found below a bound, no number there passes.
  pub missed_below : (count : ℕ) → find test (range_with_len 0 count) ≡ None → (i : ℕ) → i < count → test i ≡ false
  missed_below count none i below = missed_from 0 count none i (omega arith) (omega (arith, below))

  -- Where a number below a bound passes, one is found.
  pub found_below : (count i : ℕ) → i < count → test i ≡ true → (j : ℕ) × (find test (range_with_len 0 count) ≡ Some j)
  found_below count i below passes = go (find test (range_with_len 0 count)) refl
    where
      go : (o : Option ℕ) → find test (range_with_len 0 count) ≡ o → (j : ℕ) × (find test (range_with_len 0 count) ≡ Some j)
      go (Some j) is = (j, is)
      go None is = absurd (false≢true (sym (missed_below count is i below) ∙ passes))

  -- ---- what is found of the numbers that pass

  module _ {Y : Type 0} (make : ℕ → Option Y) where
    -- What is found from a start on is made of a number that passes.
    with_from : (start count : ℕ) (y : Y) → first_with make (filter test (range_with_len start count)) ≡ Some y → (i : ℕ) × (start ≤ i) × (test i ≡ true) × (make i ≡ Some y)
    with_from start zero y found = absurd cc
    with_from start (suc count) y found = go (with_from (start + 1) count y) (test start) refl
      where
        go : (first_with make (filter test (range_with_len (start + 1) count)) ≡ Some y → (i : ℕ) × (start + 1 ≤ i) × (test i ≡ true) × (make i ≡ Some y)) → (b : Bool) → test start ≡ b
            → (i : ℕ) × (start ≤ i) × (test i ≡ true) × (make i ≡ Some y)
        go later true is = elim (or_some (make start) (first_with make (filter test (range_with_len (start + 1) count))) y (rw is at found)) [
          | inl here ↦ (start, omega arith, is, here)
          | inr there ↦ let rest = later there in (rest.0, (let low = rest.1 in omega arith), rest.2, rest.3)
        ]
        go later false is = let rest = later (rw is at found) in (rest.0, (let low = rest.1 in omega arith), rest.2, rest.3)

    -- Where nothing is found from a start on, nothing is made of a number that passes.
    without_from : (start count : ℕ) → first_with make (filter test (range_with_len start count)) ≡ None → (i : ℕ) → start ≤ i → i < start + count → test i ≡ true → make i ≡ None
    without_from start zero none i low below passes = absurd (omega arith)
    without_from start (suc count) none i low below passes = go (λ rest low below. without_from (start + 1) count rest i low below passes) (test start) refl
      where
        go : (first_with make (filter test (range_with_len (start + 1) count)) ≡ None → start + 1 ≤ i → i < start + 1 + count → make i ≡ None) → (b : Bool) → test start ≡ b → make i ≡ None
        go later true is =
            let both : option_or (make start) (first_with make (filter test (range_with_len (start + 1) count))) ≡ None = rw is at none in
            elim (cases_eq i start) [
              | inl here ↦ ap make here ∙ or_none_first _ _ both
              | inr there ↦ later (or_none_second _ _ both) (omega arith) (omega arith)
            ]
        go later false is = elim (cases_eq i start) [
          | inl here ↦ absurd (false≢true (sym is ∙ ap test (sym here) ∙ passes))
          | inr there ↦ later (rw is at none) (omega arith) (omega arith)
        ]

    -- What is found is made of a number that passes.
    pub found_with : (count : ℕ) (y : Y) → first_with make (filter test (range_with_len 0 count)) ≡ Some y → (i : ℕ) × (test i ≡ true) × (make i ≡ Some y)
    found_with count y found = let rest = with_from 0 count y found in (rest.0, rest.2, rest.3)

    -- Where nothing is found, nothing is made of a number that passes.
    pub missed_with : (count : ℕ) → first_with make (filter test (range_with_len 0 count)) ≡ None → (i : ℕ) → i < count → test i ≡ true → make i ≡ None
    missed_with count none i below passes = without_from 0 count none i (omega arith) (omega (arith, below)) passes

  -- ---- what is found of two numbers that pass

  module _ {Y : Type 0} (make : ℕ → ℕ → Option Y) where
    -- Something is made of two numbers that pass.
    pub record IsPairOf (y : Y) : Type 0 where
      pub i : ℕ
      pub j : ℕ
      pub below : i < j
      pub first_passes : test i ≡ true
      pub second_passes : test j ≡ true
      pub is_made : make i j ≡ Some y

    -- What is found from a start on is made of two numbers that pass.
    pair_from : (start count : ℕ) (y : Y) → first_pair make (filter test (range_with_len start count)) ≡ Some y → IsPairOf y
    pair_from start zero y found = absurd cc
    pair_from start (suc count) y found = go (pair_from (start + 1) count y) (test start) refl
      where
        go : (first_pair make (filter test (range_with_len (start + 1) count)) ≡ Some y → IsPairOf y) → (b : Bool) → test start ≡ b → IsPairOf y
        go later true is = elim (or_some (first_with (make start) (filter test (range_with_len (start + 1) count))) (first_pair make (filter test (range_with_len (start + 1) count))) y (rw is at found)) [
          | inl here ↦
              let other = with_from (make start) (start + 1) count y here in
              let low = other.1 in
              record { i = start; j = other.0; below = omega arith; first_passes = is; second_passes = other.2; is_made = other.3 }
          | inr there ↦ later there
        ]
        go later false is = later (rw is at found)

    -- Where nothing is found from a start on, nothing is made of two that pass.
    no_pair_from : (start count : ℕ) → first_pair make (filter test (range_with_len start count)) ≡ None → (i j : ℕ) → start ≤ i → i < j → j < start + count → test i ≡ true → test j ≡ true → make i j ≡ None
    no_pair_from start zero none i j low less below one other = absurd (omega arith)
    no_pair_from start (suc count) none i j low less below one other = go (λ rest low below. no_pair_from (start + 1) count rest i j low less below one other) (test start) refl
      where
        go : (first_pair make (filter test (range_with_len (start + 1) count)) ≡ None → start + 1 ≤ i → j < start + 1 + count → make i j ≡ None) → (b : Bool) → test start ≡ b → make i j ≡ None
        go later true is =
            let both : option_or (first_with (make start) (filter test (range_with_len (start + 1) count))) (first_pair make (filter test (range_with_len (start + 1) count))) ≡ None = rw is at none in
            elim (cases_eq i start) [
              | inl here ↦ ap (λ (n : ℕ). make n j) here ∙ without_from (make start) (start + 1) count (or_none_first _ _ both) j (omega arith) (omega arith) other
              | inr there ↦ later (or_none_second _ _ both) (omega arith) (omega arith)
            ]
        go later false is = elim (cases_eq i start) [
          | inl here ↦ absurd (false≢true (sym is ∙ ap test (sym here) ∙ one))
          | inr there ↦ later (rw is at none) (omega arith) (omega arith)
        ]

    -- What is found is made of two numbers that pass.
    pub found_pair : (count : ℕ) (y : Y) → first_pair make (filter test (range_with_len 0 count)) ≡ Some y → IsPairOf y
    found_pair count y found = pair_from 0 count y found

    -- Where nothing is found, nothing is made of two that pass, the lower one first.
    pub missed_pair : (count : ℕ) → first_pair make (filter test (range_with_len 0 count)) ≡ None → (i j : ℕ) → i < j → j < count → test i ≡ true → test j ≡ true → make i j ≡ None
    missed_pair count none i j less below one other = no_pair_from 0 count none i j (omega arith) less (omega (arith, below)) one other
