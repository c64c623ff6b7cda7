-- Lists made item by item over a range of numbers.
use Rattle.std.proofs.Common.{◌≡◌, ◌∙◌, ℕ, suc, ◌+◌, ◌-◌, ◌<◌, List, [], ◌∷◌, ◌++◌, ap, arith, append-nil}
use Rattle.std.specs.List.{range_with_len, flat_map}
use Rattle.std.proofs.lemmas.Grind.{flat_map-append}
use Rattle.ddf_lemmas.proofs.Lists.{range-append}

pub range-more : (a n : ℕ) → range_with_len a (n + 1) ≡ range_with_len a n ++ (a + n) ∷ []
range-more a n = range-append a n 1

-- a range around one of its numbers
pub range-around : (n k : ℕ) → k < n → range_with_len 0 n ≡ range_with_len 0 k ++ k ∷ range_with_len (k + 1) (n - k - 1)
range-around n k below =
    let split : n ≡ k + suc (n - k - 1) = omega arith in
    let zeroth : 0 + k ≡ k = omega arith in
    ap (range_with_len 0) split ∙ range-append 0 k (suc (n - k - 1))
    ∙ ap (λ b. range_with_len 0 k ++ range_with_len b (suc (n - k - 1))) zeroth

module _ {X : Type 0} (each : ℕ → List X) where
  pub flat-more : (n : ℕ) → flat_map each (range_with_len 0 (n + 1)) ≡ flat_map each (range_with_len 0 n) ++ each n
  flat-more n =
      ap (flat_map each) (range-more 0 n) ∙ flat_map-append each (range_with_len 0 n) ((0 + n) ∷ [])
      ∙ ap (λ l. flat_map each (range_with_len 0 n) ++ l) (append-nil (each (0 + n)) ∙ ap each (omega arith))

  pub flat-around : (n k : ℕ) → k < n
      → flat_map each (range_with_len 0 n) ≡ flat_map each (range_with_len 0 k) ++ (each k ++ flat_map each (range_with_len (k + 1) (n - k - 1)))
  flat-around n k below =
      ap (flat_map each) (range-around n k below) ∙ flat_map-append each (range_with_len 0 k) (k ∷ range_with_len (k + 1) (n - k - 1))
