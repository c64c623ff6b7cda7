-- The slots to label.
use Rattle.std.proofs.Common.{◌≡◌, ℕ, zero, suc, ◌+◌, ◌<◌, ◌≤◌, List, [], ◌∷◌, ◌++◌, length, Bool, true, false, Some, refl, sym, ap, ◌∙◌, inl, inr, arith, append-nil}
use Rattle.std.specs.Prelude.{filter, slice_get}
use Rattle.std.specs.List.{All, range_with_len}
use Rattle.std.proofs.lemmas.List.{map-id}
use Rattle.std.proofs.lemmas.List.Elements.{All-filter, All-from_get_or, filter-append}
use Rattle.std.proofs.lemmas.Bool.{cases_Bool}
use Rattle.std.proofs.lemmas.List.FromFn.{get_or-range_with_len, length-range_with_len, map-range_with_len_more}
use Rattle.ddf_update.specs.Group.{AreSlots}
use Rattle.ddf_disk_commands.specs.LabelRefusal.{chosen, is_chosen}

-- ---- one slot more

counting : (count : ℕ) → range_with_len 0 (count + 1) ≡ range_with_len 0 count ++ count ∷ []
counting count = sym (map-id (range_with_len 0 (count + 1))) ∙ map-range_with_len_more (λ (x : ℕ). x) 0 count count (omega arith) ∙ ap (λ (xs : List ℕ). xs ++ count ∷ []) (map-id (range_with_len 0 count))

one_chosen : (test : ℕ → Bool) (slot : ℕ) → test slot ≡ true → filter test (slot ∷ []) ≡ slot ∷ []
one_chosen test slot is = rw is refl

none_chosen : (test : ℕ → Bool) (slot : ℕ) → test slot ≡ false → filter test (slot ∷ []) ≡ []
none_chosen test slot is = rw is refl

more : (named : List ℕ) (slot : ℕ) → chosen (slot + 1) named ≡ chosen slot named ++ filter (is_chosen named) (slot ∷ [])
more named slot = ap (filter (is_chosen named)) (counting slot) ∙ filter-append (is_chosen named) (range_with_len 0 slot) (slot ∷ [])

pub chosen_more : (named : List ℕ) (slot : ℕ) → is_chosen named slot ≡ true → chosen (slot + 1) named ≡ chosen slot named ++ slot ∷ []
chosen_more named slot is = more named slot ∙ ap (λ (ones : List ℕ). chosen slot named ++ ones) (one_chosen (is_chosen named) slot is)

pub chosen_same : (named : List ℕ) (slot : ℕ) → is_chosen named slot ≡ false → chosen (slot + 1) named ≡ chosen slot named
chosen_same named slot is = more named slot ∙ ap (λ (ones : List ℕ). chosen slot named ++ ones) (none_chosen (is_chosen named) slot is) ∙ append-nil (chosen slot named)

-- ---- each is there, once

kept : (test : ℕ → Bool) (from : ℕ) (rest : List ℕ) → test from ≡ true → filter test (from ∷ rest) ≡ from ∷ filter test rest
kept test from rest is = rw is refl

left_out : (test : ℕ → Bool) (from : ℕ) (rest : List ℕ) → test from ≡ false → filter test (from ∷ rest) ≡ filter test rest
left_out test from rest is = rw is refl

-- items from a number on, below another
abbrev Within : (from to : ℕ) → List ℕ → Type 0
Within from to slots = (place slot : ℕ) → slice_get slots place ≡ Some slot → (from ≤ slot) × (slot < to)

-- no item twice
abbrev Once : List ℕ → Type 0
Once slots = (one other slot : ℕ) → slice_get slots one ≡ Some slot → slice_get slots other ≡ Some slot → one ≡ other

within_front : (from to : ℕ) (rest : List ℕ) → from < to → Within (from + 1) to rest → Within from to (from ∷ rest)
within_front from to rest lt is zero slot at = let same : from ≡ slot = cc in (omega (arith, same), omega (arith, same, lt))
within_front from to rest lt is (suc place) slot at = let bounds = is place slot at in (omega (arith, bounds.0), bounds.1)

within_later : (from to : ℕ) (rest : List ℕ) → Within (from + 1) to rest → Within from to rest
within_later from to rest is place slot at = let bounds = is place slot at in (omega (arith, bounds.0), bounds.1)

once_front : (from to : ℕ) (rest : List ℕ) → Within (from + 1) to rest → Once rest → Once (from ∷ rest)
once_front from to rest is once zero zero slot here there = refl
once_front from to rest is once zero (suc other) slot here there = let same : from ≡ slot = cc in let bounds = is other slot there in absurd (omega (arith, same, bounds.0))
once_front from to rest is once (suc one) zero slot here there = let same : from ≡ slot = cc in let bounds = is one slot here in absurd (omega (arith, same, bounds.0))
once_front from to rest is once (suc one) (suc other) slot here there = ap suc (once one other slot here there)

module _ (test : ℕ → Bool) where
  within : (from count to : ℕ) → from + count ≤ to → Within from to (filter test (range_with_len from count))
  within from zero to le = λ place slot at. cc
  within from (suc count) to le =
      let rest : Within (from + 1) to (filter test (range_with_len (from + 1) count)) = within (from + 1) count to (omega (arith, le)) in
      elim (cases_Bool (test from)) [
        | inl keep ↦ rw (kept test from (range_with_len (from + 1) count) keep) (within_front from to (filter test (range_with_len (from + 1) count)) (omega (arith, le)) rest)
        | inr leave ↦ rw (left_out test from (range_with_len (from + 1) count) leave) (within_later from to (filter test (range_with_len (from + 1) count)) rest)
      ]

  once : (from count : ℕ) → Once (filter test (range_with_len from count))
  once from zero = λ one other slot here there. cc
  once from (suc count) = elim (cases_Bool (test from)) [
    | inl keep ↦ rw (kept test from (range_with_len (from + 1) count) keep) (once_front from (from + 1 + count) (filter test (range_with_len (from + 1) count)) (within (from + 1) count (from + 1 + count) (omega arith)) (once (from + 1) count))
    | inr leave ↦ rw (left_out test from (range_with_len (from + 1) count) leave) (once (from + 1) count)
  ]

pub chosen_once : (sizes named : List ℕ) → AreSlots sizes (chosen (length sizes) named)
chosen_once sizes named = record {
  there = λ place slot at. (within (is_chosen named) 0 (length sizes) (length sizes) (omega arith) place slot at).1;
  differ = once (is_chosen named) 0 (length sizes);
}

pub chosen_there : (count : ℕ) (named : List ℕ) → All (λ slot. slot < count) (chosen count named)
chosen_there count named = All-filter (is_chosen named) (λ slot. slot < count) (range_with_len 0 count)
    (All-from_get_or (λ slot. slot < count) (range_with_len 0 count) 0 (λ i lt. rw (get_or-range_with_len 0 count i 0 (omega (arith, lt, length-range_with_len 0 count))) (omega (arith, lt, length-range_with_len 0 count))))
