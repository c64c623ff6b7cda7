-- Disks in the order in which they are written: those that showed another group come last.
use Rattle.std.proofs.Common.{◌≡◌, ℕ, zero, suc, ◌+◌, Bool, true, false, not, cond, List, [], ◌∷◌, ◌++◌, length, filter, Some, refl, sym, ap, ◌∙◌, inl, inr, ◌⊎◌, ◌<◌, arith}
use Rattle.std.specs.Prelude.{slice_get}
use Rattle.std.specs.List.{AllByRecursion}
use Rattle.ddf_lemmas.proofs.Lists.{all_from, filter_get, filter_pass, filtered_passes, first_get, in_map, mapped_at, second_get}
use Rattle.ddf_view.proofs.Finds.{place_within}
use Rattle.ddf_rewrite.proofs.Lists.{all_at}
use Rattle.ddf_seats.specs.declared.seated.Seated.{Seated}
use Rattle.ddf_seats.specs.Seated.{seats_in, slots_in, is_adopted}
use Rattle.ddf_steps.specs.Steps.{in_order}
use Rattle.ddf_seats.specs.Changing.{SlotsRise}
use Rattle.ddf_seats.proofs.CommittedSeats.{rise_differ}
use Rattle.ddf_seats.proofs.KeptSlots.{kept_rise}

-- ---- lists

-- An item of two lists is one of the first or of the second.
either_get : {X : Type 0} (xs ys : List X) (k : ℕ) (x : X) → slice_get (xs ++ ys) k ≡ Some x → (slice_get xs k ≡ Some x) ⊎ ((j : ℕ) × (k ≡ length xs + j) × (slice_get ys j ≡ Some x))
either_get [] ys k x at = inr (k, omega arith, at)
either_get (first ∷ xs) ys zero x at = inl at
either_get (first ∷ xs) ys (suc k) x at = elim (either_get xs ys k x at) [
  | inl early ↦ inl early
  | inr late ↦ inr (late.0, omega (arith, late.1), late.2)
]

-- ---- disks in order

abbrev own : Seated → Bool
own disk = not (is_adopted disk)

-- Each is one of the disks.
pub order_from : (disks : List Seated) (k : ℕ) (disk : Seated) → slice_get (in_order disks) k ≡ Some disk → (j : ℕ) × (slice_get disks j ≡ Some disk)
order_from disks k disk at = elim (either_get (filter own disks) (filter is_adopted disks) k disk at) [
  | inl early ↦ filter_get own disks k disk early
  | inr late ↦ filter_get is_adopted disks late.0 disk late.2
]

-- Each of the disks is one of them.
pub order_at : (disks : List Seated) (k : ℕ) (disk : Seated) → slice_get disks k ≡ Some disk → (j : ℕ) × (slice_get (in_order disks) j ≡ Some disk)
order_at disks k disk at = by (is_adopted disk) refl
  where
    by : (b : Bool) → is_adopted disk ≡ b → (j : ℕ) × (slice_get (in_order disks) j ≡ Some disk)
    by true e =
        let kept = filtered_passes is_adopted disks k disk at e in
        (length (filter own disks) + kept.0, second_get (filter own disks) (filter is_adopted disks) kept.0 disk kept.1)
    by false e =
        let kept = filtered_passes own disks k disk at (ap not e) in
        (kept.0, first_get (filter own disks) (filter is_adopted disks) kept.0 disk kept.1)

-- What each of the disks has, each in order has.
pub order_all : (P : Seated → Type 0) (disks : List Seated) → AllByRecursion P disks → AllByRecursion P (in_order disks)
order_all P disks all = all_from P (in_order disks) (λ k disk at. let from = order_from disks k disk at in all_at P disks from.0 disk all from.1)

-- Those that showed another group come behind the others.
pub adopted_last : (disks : List Seated) (i j : ℕ) (one other : Seated) → slice_get (in_order disks) i ≡ Some one → slice_get (in_order disks) j ≡ Some other
    → is_adopted one ≡ false → is_adopted other ≡ true → i < j
adopted_last disks i j one other at also first last = elim (either_get (filter own disks) (filter is_adopted disks) i one at) [
  | inl early ↦ elim (either_get (filter own disks) (filter is_adopted disks) j other also) [
    | inl too ↦
        let passes : own other ≡ true = all_at (λ (disk : Seated). own disk ≡ true) (filter own disks) j other (filter_pass own disks) too in
        let no : false ≡ true = sym (ap not last) ∙ passes in
        absurd cc
    | inr late ↦ let within = place_within (filter own disks) i one early in omega (arith, within, late.1)
  ]
  | inr late ↦
      let passes : is_adopted one ≡ true = all_at (λ (disk : Seated). is_adopted disk ≡ true) (filter is_adopted disks) late.0 one (filter_pass is_adopted disks) late.2 in
      let no : false ≡ true = sym first ∙ passes in
      absurd cc
]

-- Where none showed another group they are as they are.
pub order_own : (disks : List Seated) → ((k : ℕ) (disk : Seated) → slice_get disks k ≡ Some disk → is_adopted disk ≡ false) → in_order disks ≡ disks
order_own disks none = ap (λ (xs : List Seated). xs ++ filter is_adopted disks) (all_own disks none) ∙ ap (λ (ys : List Seated). disks ++ ys) (no_adopted disks none) ∙ append_nothing disks
  where
    append_nothing : (xs : List Seated) → xs ++ [] ≡ xs
    append_nothing [] = refl
    append_nothing (x ∷ xs) = ap (λ (ys : List Seated). x ∷ ys) (append_nothing xs)

    all_own : (xs : List Seated) → ((k : ℕ) (disk : Seated) → slice_get xs k ≡ Some disk → is_adopted disk ≡ false) → filter own xs ≡ xs
    all_own [] is = refl
    all_own (x ∷ xs) is =
        ap (λ (b : Bool). cond (not b) (x ∷ filter own xs) (filter own xs)) (is 0 x refl) ∙ ap (λ (ys : List Seated). x ∷ ys) (all_own xs (λ k. is (suc k)))

    no_adopted : (xs : List Seated) → ((k : ℕ) (disk : Seated) → slice_get xs k ≡ Some disk → is_adopted disk ≡ false) → filter is_adopted xs ≡ []
    no_adopted [] is = refl
    no_adopted (x ∷ xs) is =
        ap (λ (b : Bool). cond b (x ∷ filter is_adopted xs) (filter is_adopted xs)) (is 0 x refl) ∙ no_adopted xs (λ k. is (suc k))

module _ (disks : List Seated) (rise : SlotsRise (seats_in disks)) where
  -- Disks on one slot are one.
  one_disk : (i j : ℕ) (one other : Seated) → slice_get disks i ≡ Some one → slice_get disks j ≡ Some other → one.seat.slot ≡ other.seat.slot → one ≡ other
  one_disk i j one other at also same =
      let place : i ≡ j = rise_differ disks rise i j other.seat.slot (mapped_at (λ (disk : Seated). disk.seat.slot) disks i one at ∙ ap Some same) (mapped_at (λ (disk : Seated). disk.seat.slot) disks j other also) in
      let both : Some one ≡ Some other = sym at ∙ ap (slice_get disks) place ∙ also in
      cc

  -- None is adopted that isn't.
  not_both : (i j : ℕ) (one other : Seated) → slice_get (filter own disks) i ≡ Some one → slice_get (filter is_adopted disks) j ≡ Some other → one.seat.slot ≡ other.seat.slot → ⊥
  not_both i j one other at also same =
      let first = filter_get own disks i one at in
      let second = filter_get is_adopted disks j other also in
      let alike = one_disk first.0 second.0 one other first.1 second.1 same in
      let passes : own one ≡ true = all_at (λ (disk : Seated). own disk ≡ true) (filter own disks) i one (filter_pass own disks) at in
      let adopted : is_adopted other ≡ true = all_at (λ (disk : Seated). is_adopted disk ≡ true) (filter is_adopted disks) j other (filter_pass is_adopted disks) also in
      let no : false ≡ true = sym (ap not (ap is_adopted alike ∙ adopted)) ∙ passes in
      absurd cc

  kept_differ : (test : Seated → Bool) (i j : ℕ) (one other : Seated) → slice_get (filter test disks) i ≡ Some one → slice_get (filter test disks) j ≡ Some other → one.seat.slot ≡ other.seat.slot → i ≡ j
  kept_differ test i j one other at also same =
      rise_differ (filter test disks) (kept_rise test disks rise) i j other.seat.slot
      (mapped_at (λ (disk : Seated). disk.seat.slot) (filter test disks) i one at ∙ ap Some same) (mapped_at (λ (disk : Seated). disk.seat.slot) (filter test disks) j other also)

  disks_differ : (i j : ℕ) (one other : Seated) → slice_get (in_order disks) i ≡ Some one → slice_get (in_order disks) j ≡ Some other → one.seat.slot ≡ other.seat.slot → i ≡ j
  disks_differ i j one other at also same = elim (either_get (filter own disks) (filter is_adopted disks) i one at) [
    | inl early ↦ elim (either_get (filter own disks) (filter is_adopted disks) j other also) [
      | inl too ↦ kept_differ own i j one other early too same
      | inr late ↦ absurd (not_both i late.0 one other early late.2 same)
    ]
    | inr late ↦ elim (either_get (filter own disks) (filter is_adopted disks) j other also) [
      | inl early ↦ absurd (not_both j late.0 other one early late.2 (sym same))
      | inr too ↦ late.1 ∙ ap (λ (n : ℕ). length (filter own disks) + n) (kept_differ is_adopted late.0 too.0 one other late.2 too.2 same) ∙ sym too.1
    ]
  ]

  -- Each slot is that of one disk.
  pub order_differ : (i j slot : ℕ) → slice_get (slots_in (in_order disks)) i ≡ Some slot → slice_get (slots_in (in_order disks)) j ≡ Some slot → i ≡ j
  order_differ i j slot at also =
      let one = in_map (λ (disk : Seated). disk.seat.slot) (in_order disks) i slot at in
      let other = in_map (λ (disk : Seated). disk.seat.slot) (in_order disks) j slot also in
      disks_differ i j one.0 other.0 one.1 other.1 (one.2 ∙ sym other.2)
