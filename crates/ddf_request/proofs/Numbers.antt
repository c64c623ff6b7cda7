-- The least number that no array has.
use Rattle.std.proofs.Common.{◌≡◌, ◌∙◌, ℕ, zero, suc, ◌+◌, ◌^◌, ◌<◌, Bool, true, false, List, find, unwrap_or, refl, sym, ap, arith, below_more}
use Rattle.std.specs.List.{range_with_len}
use Rattle.std.proofs.lemmas.List.{map-id}
use Rattle.ddf_config.specs.declared.array.Array.{Array}
use Rattle.ddf_config.proofs.Starts.{find_in_range, find_none_in_range}
use Rattle.ddf_request.specs.NewArray.{is_free_number, least_number}

module _ (test : ℕ → Bool) where
  -- the first number of a range that passes is the one that is found
  found_in : (count number : ℕ) → number < count → ((k : ℕ) → k < number → test k ≡ false) → test number ≡ true → unwrap_or (find test (range_with_len 0 count)) 0 ≡ number
  found_in count number below before passes =
      ap (λ found. unwrap_or found 0) (ap (find test) (sym (map-id (range_with_len 0 count))) ∙ find_in_range test (λ k. k) 0 count number (omega arith) (omega arith) (λ k from under. before k under) passes)

  -- where none passes it is 0
  none_in : (count : ℕ) → ((k : ℕ) → k < count → test k ≡ false) → unwrap_or (find test (range_with_len 0 count)) 0 ≡ 0
  none_in count none =
      ap (λ found. unwrap_or found 0) (ap (find test) (sym (map-id (range_with_len 0 count))) ∙ find_none_in_range test (λ k. k) 0 count (λ k from under. none k (omega arith)))

  -- what is found lies in the range
  found_below : (first count default : ℕ) → default < first + count → unwrap_or (find test (range_with_len first count)) default < first + count
  found_below first zero default below = below
  found_below first (suc count) default below = by (test first) refl (found_below (first + 1) count default)
    where
      by : (passes : Bool) → test first ≡ passes → (default < first + 1 + count → unwrap_or (find test (range_with_len (first + 1) count)) default < first + 1 + count)
          → unwrap_or (find test (range_with_len first (suc count))) default < first + suc count
      by true is later = rw is (omega arith)
      by false is later = rw is (omega (arith, later (omega arith)))

-- a number that no array has, where each lesser one is another's
pub least_is : (arrays : List (List ℕ × Array)) (number : ℕ) → number < 65536 → ((k : ℕ) → k < number → is_free_number arrays k ≡ false) → is_free_number arrays number ≡ true
    → number ≡ least_number arrays
unfolding least_number
least_is arrays number below before free = sym (found_in (is_free_number arrays) 65536 number below before free)

-- 0 where the last one is another's too
pub least_none : (arrays : List (List ℕ × Array)) (number : ℕ) → number + 1 ≡ 65536 → ((k : ℕ) → k < number → is_free_number arrays k ≡ false) → is_free_number arrays number ≡ false
    → 0 ≡ least_number arrays
unfolding least_number
least_none arrays number last before taken =
    let each = below_more (λ (k : ℕ). is_free_number arrays k ≡ false) number before taken in
    sym (none_in (is_free_number arrays) 65536 (λ k below. each k (omega arith)))

-- it has 16 bits
pub least_fits : (arrays : List (List ℕ × Array)) → least_number arrays < 2 ^ 16
unfolding least_number
least_fits arrays = found_below (is_free_number arrays) 0 65536 0 (omega arith)
