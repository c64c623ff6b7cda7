-- Extents in the order of their disks: those of one disk stand together, and an extent meets none on another disk.
use Rattle.std.proofs.Common.{◌≡◌, ℕ, zero, suc, ◌+◌, ◌<◌, ◌≤◌, Bool, true, false, not, ◌&&◌, cond, ltb, leb, eqb, nat_eq, List, [], ◌∷◌, length, get_or, take, drop, ⊎_elim, refl, sym, ap, ◌∙◌, subst, arith}
use Rattle.std.specs.List.{count_by, filter}
use Rattle.std.specs.List.Sorted.{IsPartitionPoint, IsStableByKey, ties}
use Rattle.std.specs.Ordering.{is_lt, nat_cmp}
use Rattle.std.specs.declared.cmp.Ordering.TheVariants.{Less, Equal, Greater}
use Rattle.std.proofs.lemmas.Bool.{and_from, and_left, and_right, cases_eq, cases_lt, cond-true, cond-false, eq-eqb, leb-false, leb-true, le-ltb, lt-ltb, ltb-false, ltb-true, ne_eqb, not_from_false, not_from_true}
use Rattle.std.proofs.lemmas.List.{get_or-drop, length-drop}
use Rattle.std.proofs.lemmas.List.Elements.{filter_agree}
use Rattle.std.proofs.lemmas.List.Sums.{sum_by-cons}
use Rattle.ddf_config.specs.declared.extent.Extent.{Extent}
use Rattle.ddf_config.specs.Extents.{AreByDisk, RiseByDisk, extents_on}
use Rattle.ddf_config.specs.Served.{meets_extent}

-- ---- a run of items that pass a test, among others that don't

module _ {X : Type 0} (test : X → Bool) where
  -- the first of them fail
  pub skip_front : (i : ℕ) (xs : List X) → ((k : ℕ) (d : X) → k < i → k < length xs → test (get_or xs k d) ≡ false) → filter test (drop i xs) ≡ filter test xs
  skip_front zero xs fails = refl
  skip_front (suc i) [] fails = refl
  skip_front (suc i) (x ∷ xs) fails =
      skip_front i xs (λ k d low within. fails (suc k) d (omega arith) (omega arith)) ∙ sym (cond-false _ _ _ (fails 0 x (omega arith) (omega arith)))

  -- the first of them pass, and no other one
  pub take_front : (i : ℕ) (xs : List X) → ((k : ℕ) (d : X) → k < i → k < length xs → test (get_or xs k d) ≡ true) → ((k : ℕ) (d : X) → i ≤ k → k < length xs → test (get_or xs k d) ≡ false) → take i xs ≡ filter test xs
  take_front zero [] passes fails = refl
  take_front zero (x ∷ xs) passes fails =
      take_front zero xs (λ k d low. absurd (omega arith)) (λ k d low within. fails (suc k) d (omega arith) (omega arith)) ∙ sym (cond-false _ _ _ (fails 0 x (omega arith) (omega arith)))
  take_front (suc i) [] passes fails = refl
  take_front (suc i) (x ∷ xs) passes fails =
      ap (λ l. x ∷ l) (take_front i xs (λ k d low within. passes (suc k) d (omega arith) (omega arith)) (λ k d low within. fails (suc k) d (omega arith) (omega arith)))
      ∙ sym (cond-true _ _ _ (passes 0 x (omega arith) (omega arith)))

-- ---- what is met

-- an extent meets none of those on other disks
module _ (one other : Extent) (all : List Extent) (rest : count_by (meets_extent one) (extents_on one.reference all) ≡ count_by (meets_extent one) all) where
  abbrev weight : Extent → ℕ
  weight x = cond (meets_extent one x) 1 0

  count_here : other.reference ≡ one.reference → count_by (meets_extent one) (extents_on one.reference (other ∷ all)) ≡ count_by (meets_extent one) (other ∷ all)
  count_here same =
      ap (count_by (meets_extent one)) (cond-true _ _ _ (eq-eqb other.reference one.reference same)) ∙ sum_by-cons weight other (extents_on one.reference all) ∙ ap (λ n. weight other + n) rest
      ∙ sym (sum_by-cons weight other all)

  count_away : (other.reference ≡ one.reference → ⊥) → count_by (meets_extent one) (extents_on one.reference (other ∷ all)) ≡ count_by (meets_extent one) (other ∷ all)
  count_away apart =
      let none : count_by (meets_extent one) all ≡ 0 + count_by (meets_extent one) all = omega arith in
      ap (count_by (meets_extent one)) (cond-false _ _ _ (ne_eqb other.reference one.reference apart)) ∙ rest ∙ none
      ∙ sym (ap (λ b. cond b 1 0 + count_by (meets_extent one) all) (and_left _ _ (ne_eqb one.reference other.reference (λ same. apart (sym same)))))
      ∙ sym (sum_by-cons weight other all)

pub count_on : (one : Extent) (all : List Extent) → count_by (meets_extent one) (extents_on one.reference all) ≡ count_by (meets_extent one) all
count_on one [] = refl
count_on one (other ∷ all) = ⊎_elim (count_here one other all (count_on one all)) (count_away one other all (count_on one all)) (cases_eq other.reference one.reference)

-- ---- a sort by the disks

is_lt_is : (a b : ℕ) → is_lt (nat_cmp a b) ≡ ltb a b
is_lt_is a b = by (ltb a b) (eqb a b)
  where
    by : (low same : Bool) → is_lt (cond low Less (cond same Equal Greater)) ≡ low
    by true same = refl
    by false true = refl
    by false false = refl

neither : (a b : ℕ) → (not (ltb a b) && not (ltb b a)) ≡ eqb b a
neither a b = ⊎_elim same apart (cases_eq b a)
  where
    same : b ≡ a → (not (ltb a b) && not (ltb b a)) ≡ eqb b a
    same e = and_from _ _ (not_from_false _ (le-ltb a b (omega arith))) (not_from_false _ (le-ltb b a (omega arith))) ∙ sym (eq-eqb b a e)

    apart : (b ≡ a → ⊥) → (not (ltb a b) && not (ltb b a)) ≡ eqb b a
    apart ne =
        ⊎_elim
        (λ (low : a < b). and_left _ _ (not_from_true _ (lt-ltb a b low)))
        (λ (high : b ≤ a). and_right _ _ (not_from_true _ (lt-ltb b a (omega (arith, ne)))))
        (cases_lt a b)
        ∙ sym (ne_eqb b a ne)

-- a stable sort leaves those on one disk as they were
pub by_disk : (all sorted : List Extent) → RiseByDisk sorted → IsStableByKey (λ (one : Extent). one.reference) nat_cmp all sorted → AreByDisk all sorted
by_disk all sorted rising stable = record { rising = rising; same = alike }
  where
    test : (reference : ℕ) (one : Extent) → ties (λ (x y : Extent). is_lt (nat_cmp x.reference y.reference)) (record { reference = reference; start = 0; blocks = 0 }) one ≡ nat_eq one.reference reference
    test reference one =
        ap (λ b. not b && not (is_lt (nat_cmp one.reference reference))) (is_lt_is reference one.reference)
        ∙ ap (λ b. not (ltb reference one.reference) && not b) (is_lt_is one.reference reference)
        ∙ neither reference one.reference

    alike : (reference : ℕ) → extents_on reference sorted ≡ extents_on reference all
    alike reference =
        sym (filter_agree _ _ (test reference) sorted) ∙ stable (record { reference = reference; start = 0; blocks = 0 }) ∙ filter_agree _ _ (test reference) all

-- ---- those on one disk, between two places

run_behind : (sorted : List Extent) (reference first count : ℕ)
    → IsPartitionPoint (λ (one : Extent). ltb one.reference reference ≡ true) (λ (one : Extent). ltb one.reference reference ≡ false) sorted first
    → IsPartitionPoint (λ (one : Extent). leb one.reference reference ≡ true) (λ (one : Extent). leb one.reference reference ≡ false) (drop first sorted) count
    → take count (drop first sorted) ≡ extents_on reference sorted
run_behind sorted reference first count low rest =
    take_front on count (drop first sorted) here past ∙ skip_front on first sorted before
  where
    on : Extent → Bool
    on one = nat_eq one.reference reference

    before : (k : ℕ) (d : Extent) → k < first → k < length sorted → on (get_or sorted k d) ≡ false
    before k d below within =
        let less : (get_or sorted k d).reference < reference = ltb-true _ _ (low.0 k d (omega arith) below) in
        ne_eqb _ _ (λ same. omega (arith, less, same))

    here : (k : ℕ) (d : Extent) → k < count → k < length (drop first sorted) → on (get_or (drop first sorted) k d) ≡ true
    here k d below within =
        let most : (get_or (drop first sorted) k d).reference ≤ reference = leb-true _ _ (rest.0 k d (omega arith) below) in
        let inside : first + k < length sorted = omega (arith, within, length-drop first sorted) in
        let least : reference ≤ (get_or sorted (first + k) d).reference = ltb-false _ _ (low.1 (first + k) d (omega arith) inside) in
        let here : reference ≤ (get_or (drop first sorted) k d).reference = subst (λ (one : Extent). reference ≤ one.reference) (sym (get_or-drop first sorted k d)) least in
        eq-eqb _ _ (omega (arith, most, here))

    past : (k : ℕ) (d : Extent) → count ≤ k → k < length (drop first sorted) → on (get_or (drop first sorted) k d) ≡ false
    past k d behind within =
        let more : reference < (get_or (drop first sorted) k d).reference = leb-false _ _ (rest.1 k d behind within) in
        ne_eqb _ _ (λ same. omega (arith, more, same))

-- the part from the first place on is looked at alone
pub run_is : (sorted others : List Extent) (reference first count : ℕ) → others ≡ drop first sorted
    → IsPartitionPoint (λ (one : Extent). ltb one.reference reference ≡ true) (λ (one : Extent). ltb one.reference reference ≡ false) sorted first
    → IsPartitionPoint (λ (one : Extent). leb one.reference reference ≡ true) (λ (one : Extent). leb one.reference reference ≡ false) others count
    → take count others ≡ extents_on reference sorted
run_is sorted others reference first count same low rest =
    ap (take count) same
    ∙ run_behind sorted reference first count low
    (subst (λ (l : List Extent). IsPartitionPoint (λ (one : Extent). leb one.reference reference ≡ true) (λ (one : Extent). leb one.reference reference ≡ false) l count) same rest)
