-- Numbers from one on, and lists that go with them.
use Rattle.std.proofs.Common.{◌≡◌, ℕ, zero, suc, ◌+◌, ◌<◌, ◌≤◌, List, [], ◌∷◌, length, map, Option, Some, None, refl, ap, ◌∙◌, subst, inl, inr, arith}
use Rattle.std.proofs.lemmas.Bool.{cases_lt}
use Rattle.std.specs.Prelude.{filter_map, slice_get}
use Rattle.std.specs.List.{AllByRecursion, cons_option, enumerate_from, range_with_len}
use Rattle.std.specs.Option.{option_or}
use Rattle.ddf_lemmas.proofs.Lists.{range_at}
use Rattle.ddf_group.specs.Pairs.{first_pair, first_with}
use Rattle.ddf_recovery.proofs.LeftLists.{IsNoneOf, with_none}
use Rattle.ddf_assembly.proofs.SettledSeats.{Rise}
use Rattle.ddf_rewrite.proofs.Lists.{all_at}

-- ---- numbers

-- What is below the first is below all.
below_range : (low first count : ℕ) → low < first → AllByRecursion (λ n. low < n) (range_with_len first count)
below_range low first zero below = tt
below_range low first (suc count) below = (below, below_range low (first + 1) count (omega (arith, below)))

-- They rise.
pub range_rises : (first count : ℕ) → Rise (range_with_len first count)
range_rises first zero = tt
range_rises first (suc count) = (below_range first (first + 1) count (omega arith), range_rises (first + 1) count)

-- All are below their end.
pub range_within : (first count : ℕ) → AllByRecursion (λ n. n < first + count) (range_with_len first count)
range_within first zero = tt
range_within first (suc count) = (
  omega arith,
  subst (λ (end : ℕ). AllByRecursion (λ n. n < end) (range_with_len (first + 1) count)) (let same : first + 1 + count ≡ first + suc count = omega arith in same) (range_within (first + 1) count),
)

-- What is none of those from 0 on is past them.
pub none_past : (count n : ℕ) → IsNoneOf (range_with_len 0 count) n → count ≤ n
none_past count n none = elim (cases_lt n count) [
  | inl low ↦ absurd (all_at (λ (x : ℕ). n ≡ x → ⊥) (range_with_len 0 count) n n none (range_at count n low) refl)
  | inr past ↦ past
]

-- ---- pairs

-- Nothing is found of pairs of numbers that rise where nothing is found of any that do.
pub rising_none : {Y : Type 0} (test : ℕ → ℕ → Option Y) → ((x y : ℕ) → x < y → test x y ≡ None) → (xs : List ℕ) → Rise xs → first_pair test xs ≡ None
rising_none test none [] rise = refl
rising_none {Y} test none (x ∷ xs) rise = both (first_with (test x) xs) (first_pair test xs) first (rising_none test none xs rise.1)
  where
    first : first_with (test x) xs ≡ None
    first = with_none (test x) xs (λ j y at. none x y (all_at (λ (other : ℕ). x < other) xs j y rise.0 at))

    both : (one other : Option Y) → one ≡ None → other ≡ None → option_or one other ≡ None
    both one other h k = ap (λ found. option_or found other) h ∙ k

-- ---- what is made of items

-- What is made of each item is what is kept.
pub made_all : {X Y : Type 0} (f : X → Option Y) (h : X → Y) (xs : List X) → ((k : ℕ) (x : X) → slice_get xs k ≡ Some x → f x ≡ Some (h x)) → filter_map f xs ≡ map h xs
made_all f h [] each = refl
made_all {Y = Y} f h (x ∷ xs) each =
    ap (λ (found : Option Y). cons_option found (filter_map f xs)) (each 0 x refl)
    ∙ ap (λ (rest : List Y). h x ∷ rest) (made_all f h xs (λ k. each (suc k)))

-- So it is where items are made of places.
pub made_placed : {X Y : Type 0} (f : ℕ → Option Y) (h : ℕ × X → Y) (first : ℕ) (xs : List X) → ((k : ℕ) (x : X) → slice_get xs k ≡ Some x → f (first + k) ≡ Some (h (first + k, x)))
    → filter_map f (range_with_len first (length xs)) ≡ map h (enumerate_from first xs)
made_placed f h first [] each = refl
made_placed {X} {Y} f h first (x ∷ xs) each =
    let here : first + 0 ≡ first = omega arith in
    let made : f first ≡ Some (h (first, x)) = subst (λ (n : ℕ). f n ≡ Some (h (n, x))) here (each 0 x refl) in
    ap (λ (found : Option Y). cons_option found (filter_map f (range_with_len (first + 1) (length xs)))) made
    ∙ ap (λ (rest : List Y). h (first, x) ∷ rest)
    (made_placed f h (first + 1) xs
    (λ k y at. let there : first + suc k ≡ first + 1 + k = omega arith in subst (λ (n : ℕ). f n ≡ Some (h (n, y))) there (each (suc k) y at)))
