-- The first item of which a test holds.
use Rattle.std.proofs.Common.{◌≡◌, ℕ, zero, suc, ◌+◌, ◌<◌, List, [], ◌∷◌, ◌++◌, length, take, get_or, Bool, true, false, Some, None, sym, ap, subst, ◌∙◌, inl, inr, arith, refl}
use Rattle.std.proofs.Math.Seq.{take-suc}
use Rattle.std.proofs.lemmas.Bool.{cases_Bool}
use Rattle.std.proofs.lemmas.List.Folds.{find-append, find_at}
use Rattle.std.proofs.lemmas.Option.{get_or_from_slice_get, slice_get_within}
use Rattle.std.specs.List.{All, find, position_or_len, slice_get}
use Rattle.std.specs.Option.{option_or}
use Rattle.std.specs.Bool.{then_some}

-- it has what all have
pub found_is : (P : ℕ → Type 0) (test : ℕ → Bool) (items : List ℕ) (item : ℕ) → All P items → find test items ≡ Some item → P item
found_is P test items item all found =
    let place = position_or_len test items in
    let at : slice_get items place ≡ Some item = sym (find_at test items) ∙ found in
    subst P (get_or_from_slice_get items place item 0 at) (all place 0 (slice_get_within items place item at))

find_here : (test : ℕ → Bool) (item : ℕ) (items : List ℕ) → test item ≡ true → find test (item ∷ items) ≡ Some item
find_here test item items is = rw is refl

find_later : (test : ℕ → Bool) (item : ℕ) (items : List ℕ) → test item ≡ false → find test (item ∷ items) ≡ find test items
find_later test item items is = rw is refl

not_here : (test : ℕ → Bool) (item : ℕ) (items : List ℕ) → find test (item ∷ items) ≡ None → test item ≡ false
not_here test item items none = elim (cases_Bool (test item)) [
  | inl here ↦
      let same : Some item ≡ None = sym (find_here test item items here) ∙ none in
      absurd cc
  | inr later ↦ later
]

-- of a list in which none is found
pub none_is : (test : ℕ → Bool) (items : List ℕ) → find test items ≡ None → All (λ item. test item ≡ false) items
none_is test [] none k d lt = absurd (omega (arith, lt))
none_is test (first ∷ items) none zero d lt = not_here test first items none
none_is test (first ∷ items) none (suc k) d lt = none_is test items (sym (find_later test first items (not_here test first items none)) ∙ none) k d (omega (arith, lt))

find_one : (test : ℕ → Bool) (item : ℕ) → find test (item ∷ []) ≡ then_some (test item) item
find_one test item = elim (cases_Bool (test item)) [
  | inl here ↦ rw here refl
  | inr later ↦ rw later refl
]

-- with one item more
pub find_more : (test : ℕ → Bool) (items : List ℕ) (i : ℕ) → i < length items
    → option_or (find test (take i items)) (then_some (test (get_or items i 0)) (get_or items i 0)) ≡ find test (take (i + 1) items)
find_more test items i lt =
    let next : i + 1 ≡ suc i = omega arith in
    let one : take (i + 1) items ≡ take i items ++ get_or items i 0 ∷ [] = ap (λ (n : ℕ). take n items) next ∙ take-suc items i 0 lt in
    ap (λ o. option_or (find test (take i items)) o) (sym (find_one test (get_or items i 0))) ∙ sym (find-append test (take i items) (get_or items i 0 ∷ [])) ∙ sym (ap (find test) one)
