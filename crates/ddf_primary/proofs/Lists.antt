-- Items of joined lists, read by `slice_get`.
use Rattle.std.proofs.Common.{◌≡◌, ℕ, zero, suc, ◌+◌, ◌-◌, ◌*◌, ◌<◌, ◌≤◌, List, [], ◌∷◌, ◌++◌, length, Some, slice_get, ◌⊎◌, inl, inr, ⊎_elim, refl, sym, ap, ◌∙◌, arith, length-append}
use Rattle.std.specs.List.{range_with_len, flat_map}
use Rattle.std.proofs.lemmas.Option.{slice_get_within, same_Some}
use Rattle.std.proofs.lemmas.Bool.{cases_lt}
use Rattle.std.proofs.lemmas.List.FromFn.{length-range_with_len}
use Rattle.ddf_lemmas.proofs.Lists.{slice_get-append_left, slice_get-append_right, slice_get-range}

-- pieces of one length, joined end to end
module _ {X A : Type 0} (f : X → List A) (len : ℕ) (even : (x : X) → length (f x) ≡ len) where
  pub length-pieces : (xs : List X) → length (flat_map f xs) ≡ length xs * len
  length-pieces [] = omega arith
  length-pieces (x ∷ xs) =
      length-append (f x) (flat_map f xs) ∙ omega (arith, even x, length-pieces xs)

  -- item r of piece q
  pub slice_get-pieces : (xs : List X) (q r : ℕ) (x : X) → slice_get xs q ≡ Some x → r < len → slice_get (flat_map f xs) (q * len + r) ≡ slice_get (f x) r
  slice_get-pieces [] q r x at below = absurd (cc)
  slice_get-pieces (y ∷ ys) zero r x at below =
      let same : y ≡ x = cc in
      let e : zero * len + r ≡ r = omega arith in
      let within : r < length (f y) = omega (arith, even y) in
      rw e (slice_get-append_left (f y) (flat_map f ys) r within ∙ ap (λ z. slice_get (f z) r) same)
  slice_get-pieces (y ∷ ys) (suc q) r x at below =
      let e : suc q * len + r ≡ length (f y) + (q * len + r) = omega (arith, even y) in
      rw e (slice_get-append_right (f y) (flat_map f ys) (q * len + r) ∙ slice_get-pieces ys q r x at below)

-- item i of a count from a, or of a second count from b behind the first
pub in_first_range : (a n i x : ℕ) (ys : List ℕ) → i < n → a + i ≡ x → slice_get (range_with_len a n ++ ys) i ≡ Some x
in_first_range a n i x ys below e =
    let within : i < length (range_with_len a n) = rw length-range_with_len below in
    slice_get-append_left (range_with_len a n) ys i within ∙ slice_get-range a n i below ∙ ap Some e

pub in_second_range : (a n b m i x : ℕ) → n ≤ i → i < n + m → b + i ≡ x + n → slice_get (range_with_len a n ++ range_with_len b m) i ≡ Some x
in_second_range a n b m i x past below e =
    let split : i ≡ length (range_with_len a n) + (i - n) = omega (arith, length-range_with_len a n) in
    let same : b + (i - n) ≡ x = omega arith in
    ap (slice_get (range_with_len a n ++ range_with_len b m)) split
    ∙ slice_get-append_right (range_with_len a n) (range_with_len b m) (i - n)
    ∙ slice_get-range b m (i - n) (omega arith) ∙ ap Some same

-- which of two counts an item is in
pub in_ranges : (a n b m i x : ℕ) → slice_get (range_with_len a n ++ range_with_len b m) i ≡ Some x → ((i < n) × (a + i ≡ x)) ⊎ ((n ≤ i) × (i < n + m) × (b + i ≡ x + n))
in_ranges a n b m i x at =
    let below : i < length (range_with_len a n ++ range_with_len b m) = slice_get_within (range_with_len a n ++ range_with_len b m) i x at in
    let size = length-append (range_with_len a n) (range_with_len b m) in
    let inside : i < n + m = omega (arith, below, size, length-range_with_len a n, length-range_with_len b m) in
    ⊎_elim (λ near. inl (near, same_Some (a + i) x (sym (in_first_range a n i (a + i) (range_with_len b m) near refl) ∙ at)))
    (λ far. inr (far, inside, omega (arith, same_Some (b + i - n) x (sym (in_second_range a n b m i (b + i - n) far inside (omega arith)) ∙ at))))
    (cases_lt i n)

-- an item of two counts that do not meet stands at one place
pub ranges_apart : (a n b m i j x : ℕ) → (a + n ≤ b) ⊎ (b + m ≤ a) → slice_get (range_with_len a n ++ range_with_len b m) i ≡ Some x → slice_get (range_with_len a n ++ range_with_len b m) j ≡ Some x → i ≡ j
ranges_apart a n b m i j x apart at_i at_j = grind (arith, in_ranges a n b m i x at_i, in_ranges a n b m j x at_j, apart)
