-- Items of joined lists, read by `slice_get`.
use Rattle.std.proofs.Common.{◌≡◌, ℕ, zero, suc, ◌+◌, ◌*◌, ◌<◌, List, [], ◌∷◌, length, Some, slice_get, ap, ◌∙◌, arith, length-append}
use Rattle.std.specs.List.{flat_map}
use Rattle.ddf_lemmas.proofs.Lists.{slice_get-append_left, slice_get-append_right}

-- pieces of one length, joined end to end
module _ {X A : Type 0} (f : X → List A) (len : ℕ) (even : (x : X) → length (f x) ≡ len) where
  pub length-pieces : (xs : List X) → length (flat_map f xs) ≡ length xs * len
  length-pieces [] = omega arith
  length-pieces (x ∷ xs) =
      length-append (f x) (flat_map f xs) ∙ omega (arith, even x, length-pieces xs)

  -- item r of piece q
  pub slice_get-pieces : (xs : List X) (q r : ℕ) (x : X) → slice_get xs q ≡ Some x → r < len → slice_get (flat_map f xs) (q * len + r) ≡ slice_get (f x) r
  slice_get-pieces [] q r x at below = absurd (cc)
  slice_get-pieces (y ∷ ys) zero r x at below =
      let same : y ≡ x = cc in
      let e : zero * len + r ≡ r = omega arith in
      let within : r < length (f y) = omega (arith, even y) in
      rw e (slice_get-append_left (f y) (flat_map f ys) r within ∙ ap (λ z. slice_get (f z) r) same)
  slice_get-pieces (y ∷ ys) (suc q) r x at below =
      let e : suc q * len + r ≡ length (f y) + (q * len + r) = omega (arith, even y) in
      rw e (slice_get-append_right (f y) (flat_map f ys) (q * len + r) ∙ slice_get-pieces ys q r x at below)
