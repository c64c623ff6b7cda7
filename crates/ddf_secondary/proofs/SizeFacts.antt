-- Facts of the sizes of an array's elements.
use Rattle.std.proofs.Common.{◌≡◌, ℕ, zero, suc, ◌+◌, ◌<◌, ◌≤◌, true, ◌&&◌, nat_lt, ◌==◌, List, [], ◌∷◌, length, get_or, min, Some, slice_get, ⊎_elim, refl, sym, ap, ◌∙◌, arith}
use Rattle.std.specs.List.{list_all}
use Rattle.std.proofs.lemmas.Bool.{cases_lt, and_parts, and_from, ltb-true, eqb-true, eq-eqb, lt-ltb}
use Rattle.std.proofs.lemmas.Option.{none-some, same_Some, slice_get_within, slice_get-get_or, get_or_from_slice_get}
use Rattle.std.specs.Cmp.Derive.{one_truth}
use Rattle.ddf_lemmas.proofs.Lists.{list_all_from, list_all_read}
use Rattle.ddf_secondary.specs.declared.element.ElementSize.{ElementSize}
use Rattle.ddf_secondary.specs.Sizes.{least_of, greatest_of, unit_of, share_a_unit}

-- no two units differ, and none is 0: the first isn't 0, and all others are as it
pub units_are_as_the_first : (sizes : List ElementSize) → share_a_unit sizes ≡ true → (k : ℕ) (size : ElementSize) → slice_get sizes k ≡ Some size → size.unit ≡ unit_of sizes
units_are_as_the_first [] share k size at_k = absurd (none-some size at_k)
units_are_as_the_first (first ∷ others) share k size at_k =
    let sizes = first ∷ others in
    let one = list_all_read (λ (a : ElementSize). nat_lt 0 a.unit && list_all (λ (b : ElementSize). a.unit == b.unit) sizes) sizes 0 first share refl in
    let same = list_all_read (λ (b : ElementSize). first.unit == b.unit) sizes k size ((and_parts _ _ one).1) at_k in
    sym (eqb-true first.unit size.unit same)

pub unit_is_some : (sizes : List ElementSize) → 0 < length sizes → share_a_unit sizes ≡ true → 0 < unit_of sizes
unit_is_some [] some share = absurd (omega arith)
unit_is_some (first ∷ others) some share =
    let sizes = first ∷ others in
    let one = list_all_read (λ (a : ElementSize). nat_lt 0 a.unit && list_all (λ (b : ElementSize). a.unit == b.unit) sizes) sizes 0 first share refl in
    ltb-true 0 first.unit ((and_parts _ _ one).0)

pub share_from_first : (sizes : List ElementSize) → 0 < unit_of sizes → ((k : ℕ) (size : ElementSize) → slice_get sizes k ≡ Some size → size.unit ≡ unit_of sizes) → share_a_unit sizes ≡ true
share_from_first sizes some same =
    list_all_from (λ (a : ElementSize). nat_lt 0 a.unit && list_all (λ (b : ElementSize). a.unit == b.unit) sizes) sizes
    (λ i a at_i. and_from (nat_lt 0 a.unit) _ (lt-ltb 0 a.unit (omega (arith, same i a at_i)))
    (list_all_from (λ (b : ElementSize). a.unit == b.unit) sizes (λ j b at_j. eq-eqb a.unit b.unit (same i a at_i ∙ sym (same j b at_j)))))

pub share_is : (sizes : List ElementSize) → 0 < length sizes → 0 < unit_of sizes → list_all (λ (size : ElementSize). size.unit == unit_of sizes) sizes ≡ share_a_unit sizes
share_is sizes some unit =
    one_truth _ _
    (λ all. share_from_first sizes unit (λ k size at_k. eqb-true size.unit (unit_of sizes) (list_all_read (λ (s : ElementSize). s.unit == unit_of sizes) sizes k size all at_k)))
    (λ share. list_all_from (λ (s : ElementSize). s.unit == unit_of sizes) sizes (λ k size at_k. eq-eqb size.unit (unit_of sizes) (units_are_as_the_first sizes share k size at_k)))

-- the least and the greatest
pub least_le : (of : ElementSize → ℕ) (sizes : List ElementSize) (k : ℕ) (size : ElementSize) → slice_get sizes k ≡ Some size → least_of of sizes ≤ of size
least_le of [] k size at_k = absurd (none-some size at_k)
least_le of (first ∷ []) zero size at_k = omega (arith, ap of (same_Some first size at_k))
least_le of (first ∷ []) (suc k) size at_k = absurd (none-some size at_k)
least_le of (first ∷ (other ∷ others)) zero size at_k = omega (arith, ap of (same_Some first size at_k))
least_le of (first ∷ (other ∷ others)) (suc k) size at_k = omega (arith, least_le of (other ∷ others) k size at_k)

pub record Reached (of : ElementSize → ℕ) (sizes : List ElementSize) (n : ℕ) : Type 0 where
  pub place : ℕ
  pub size : ElementSize
  pub at_place : slice_get sizes place ≡ Some size
  pub is : of size ≡ n

pub least_reached : (of : ElementSize → ℕ) (sizes : List ElementSize) → 0 < length sizes → Reached of sizes (least_of of sizes)
least_reached of [] some = absurd (omega arith)
least_reached of (first ∷ []) some = record { place = 0; size = first; at_place = refl; is = refl }
least_reached of (first ∷ (other ∷ others)) some =
    let rest = least_reached of (other ∷ others) (omega arith) in
    ⊎_elim (λ below. record { place = 0; size = first; at_place = refl; is = omega arith })
    (λ past. record { place = suc rest.place; size = rest.size; at_place = rest.at_place; is = omega (arith, rest.is) })
    (cases_lt (of first) (least_of of (other ∷ others)))

-- a number that an element has and none is below is the least
pub least_is : (of : ElementSize → ℕ) (sizes : List ElementSize) (n : ℕ) → Reached of sizes n → ((k : ℕ) (size : ElementSize) → slice_get sizes k ≡ Some size → n ≤ of size) → n ≡ least_of of sizes
least_is of sizes n reached below =
    let some : 0 < length sizes = omega (arith, slice_get_within sizes reached.place reached.size reached.at_place) in
    let least = least_reached of sizes some in
    omega (arith, least_le of sizes reached.place reached.size reached.at_place, reached.is, below least.place least.size least.at_place, least.is)

pub greatest_ge : (of : ElementSize → ℕ) (sizes : List ElementSize) (k : ℕ) (size : ElementSize) → slice_get sizes k ≡ Some size → of size ≤ greatest_of of sizes
greatest_ge of [] k size at_k = absurd (none-some size at_k)
greatest_ge of (first ∷ others) zero size at_k = omega (arith, ap of (same_Some first size at_k))
greatest_ge of (first ∷ others) (suc k) size at_k = omega (arith, greatest_ge of others k size at_k)

-- a running least: one more element
pub reached_more : (of : ElementSize → ℕ) (sizes : List ElementSize) (i least : ℕ) (none : ElementSize) → i < length sizes → Reached of sizes least → Reached of sizes (min least (of (get_or sizes i none)))
reached_more of sizes i least none within reached =
    ⊎_elim (λ below. record { place = reached.place; size = reached.size; at_place = reached.at_place; is = omega (arith, reached.is) })
    (λ past. record { place = i; size = get_or sizes i none; at_place = slice_get-get_or sizes i none within; is = omega arith })
    (cases_lt least (of (get_or sizes i none)))

pub least_more : (of : ElementSize → ℕ) (sizes : List ElementSize) (i least : ℕ) (none : ElementSize) → i < length sizes → ((k : ℕ) (size : ElementSize) → k < i → slice_get sizes k ≡ Some size → least ≤ of size) → (k : ℕ) (size : ElementSize) → k < i + 1 → slice_get sizes k ≡ Some size → min least (of (get_or sizes i none)) ≤ of size
least_more of sizes i least none within before k size near at_k =
    ⊎_elim (λ below. omega (arith, before k size below at_k))
    (λ past.
    let here : k ≡ i = omega arith in
    let same : get_or sizes i none ≡ size = get_or_from_slice_get sizes i size none (rw here at at_k) in
    omega (arith, ap of same))
    (cases_lt k i)

pub unit_of_is : (sizes : List ElementSize) (none : ElementSize) → 0 < length sizes → (get_or sizes 0 none).unit ≡ unit_of sizes
unit_of_is [] none some = absurd (omega arith)
unit_of_is (first ∷ others) none some = refl
