-- How many extents are on a disk, where one of them moves.
use Rattle.std.proofs.Common.{◌≡◌, ◌∙◌, ℕ, ◌+◌, ◌≤◌, Bool, true, false, ◌||◌, cond, List, [], ◌∷◌, map, count_by, nat_eq, nat_le, Option, Some, None, refl, sym, ap, arith}
use Rattle.std.proofs.lemmas.Bool.{false≢true, or_parts}
use Rattle.std.proofs.lemmas.List.Folds.{list_any-append}
use Rattle.std.proofs.lemmas.List.Sums.{sum_by-append, sum_by-cons}
use Rattle.std.specs.List.{flat_map, list_any}
use Rattle.ddf_lemmas.proofs.Tests.{one_test}
use Rattle.ddf_config.specs.declared.element.Position.{Position}
use Rattle.ddf_config.specs.declared.array.Array.{Array}
use Rattle.ddf_config.specs.declared.extent.Extent.{Extent}
use Rattle.ddf_config.specs.ElementValue.{ElementValue}
use Rattle.ddf_config.specs.Extents.{array_extents, extent, extents, part_extents}
use Rattle.ddf_plan.specs.Spare.{array_refers, part_refers, position_refers}
use Rattle.ddf_availability.proofs.Moves.{IsMoved}

-- ---- that one is

abbrev pub is_on : ℕ → Extent → Bool
is_on reference one = nat_eq one.reference reference

on_positions : (reference blocks : ℕ) (positions : List Position) → list_any (position_refers reference) positions ≡ list_any (is_on reference) (map (extent blocks) positions)
on_positions reference blocks [] = refl
on_positions reference blocks (one ∷ positions) = ap (λ (b : Bool). nat_eq one.reference reference || b) (on_positions reference blocks positions)

on_part : (reference : ℕ) (part : Option ElementValue) → part_refers reference part ≡ list_any (is_on reference) (part_extents part)
on_part reference None = refl
on_part reference (Some plan) = on_positions reference plan.blocks plan.positions

on_parts : (reference : ℕ) (parts : List (Option ElementValue)) → list_any (part_refers reference) parts ≡ list_any (is_on reference) (flat_map part_extents parts)
on_parts reference [] = refl
on_parts reference (part ∷ parts) =
    ap (λ (b : Bool). b || list_any (part_refers reference) parts) (on_part reference part)
    ∙ ap (λ (b : Bool). list_any (is_on reference) (part_extents part) || b) (on_parts reference parts)
    ∙ sym (list_any-append (is_on reference) (part_extents part) (flat_map part_extents parts))

-- a position of some array is on a disk where an extent of all is
pub on_arrays : (reference : ℕ) (es : List (List ℕ × Array)) → list_any (λ (entry : List ℕ × Array). array_refers reference entry.1) es ≡ list_any (is_on reference) (extents es)
on_arrays reference [] = refl
on_arrays reference (e ∷ es) =
    ap (λ (b : Bool). b || list_any (λ (entry : List ℕ × Array). array_refers reference entry.1) es) (on_parts reference e.1.elements)
    ∙ ap (λ (b : Bool). list_any (is_on reference) (array_extents e.1) || b) (on_arrays reference es)
    ∙ sym (list_any-append (is_on reference) (array_extents e.1) (extents es))

-- ---- how many

none_counted : (p : Extent → Bool) (xs : List Extent) → list_any p xs ≡ false → count_by p xs ≡ 0
none_counted p [] h = refl
none_counted p (x ∷ xs) h =
    let parts = or_parts (p x) (list_any p xs) h in
    sum_by-cons (λ y. cond (p y) 1 0) x xs ∙ ap (λ (b : Bool). cond b 1 0 + count_by p xs) parts.0 ∙ ap (λ (n : ℕ). 0 + n) (none_counted p xs parts.1)

some_counted : (p : Extent → Bool) (xs : List Extent) → list_any p xs ≡ true → 1 ≤ count_by p xs
some_counted p [] h = absurd (false≢true h)
some_counted p (x ∷ xs) h = by (p x) (sum_by-cons (λ y. cond (p y) 1 0) x xs) h (some_counted p xs)
  where
    by : (b : Bool) → count_by p (x ∷ xs) ≡ cond b 1 0 + count_by p xs → (b || list_any p xs) ≡ true → (list_any p xs ≡ true → 1 ≤ count_by p xs) → 1 ≤ count_by p (x ∷ xs)
    by true count h rest = omega (arith, count)
    by false count h rest = let more = rest h in omega (arith, count, more)

more_test : (n : ℕ) → 2 ≤ n → nat_le n 1 ≡ false
more_test n least = grind arith

module _ (p : Extent → Bool) (old found : Extent) (before after : List Extent) (moved : IsMoved old found before after) (was_on : p old ≡ true) where
  count_is : count_by p before ≡ count_by p moved.pre + (1 + count_by p moved.post)
  count_is =
      ap (count_by p) moved.was ∙ sum_by-append (λ y. cond (p y) 1 0) moved.pre (old ∷ moved.post)
      ∙ ap (λ (n : ℕ). count_by p moved.pre + n) (sum_by-cons (λ y. cond (p y) 1 0) old moved.post ∙ ap (λ (b : Bool). cond b 1 0 + count_by p moved.post) was_on)

  any_is : list_any p after ≡ (list_any p moved.pre || (p found || list_any p moved.post))
  any_is = ap (list_any p) moved.is ∙ list_any-append p moved.pre (found ∷ moved.post)

  -- Behind the move none is on the disk: only the one that moved was, and it is on another one.
  pub left_alone : list_any p after ≡ false → (p found ≡ false) × (nat_le (count_by p before) 1 ≡ true)
  left_alone none =
      let parts = or_parts (list_any p moved.pre) (p found || list_any p moved.post) (sym any_is ∙ none) in
      let behind = or_parts (p found) (list_any p moved.post) parts.1 in
      let first = none_counted p moved.pre parts.0 in
      let last_ones = none_counted p moved.post behind.1 in
      (behind.0, one_test (count_by p before) (omega (arith, count_is, first, last_ones)))

  -- Behind the move one is on the disk: it's the one that moved, or there are more than one.
  pub left_more : list_any p after ≡ true → p found ≡ false → nat_le (count_by p before) 1 ≡ false
  left_more some away = by (list_any p moved.pre) refl (sym any_is ∙ some)
    where
      by : (b : Bool) → list_any p moved.pre ≡ b → (b || (p found || list_any p moved.post)) ≡ true → nat_le (count_by p before) 1 ≡ false
      by true is h = let more = some_counted p moved.pre is in more_test (count_by p before) (omega (arith, count_is, more))
      by false is h =
          let more = some_counted p moved.post (sym (ap (λ (b : Bool). b || list_any p moved.post) away) ∙ h) in
          more_test (count_by p before) (omega (arith, count_is, more))
