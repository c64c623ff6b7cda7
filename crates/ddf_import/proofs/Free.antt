-- The search for a number that is free goes on behind one that is taken.
use Rattle.std.proofs.Common.{◌≡◌, ℕ, suc, ◌+◌, ◌-◌, ◌<◌, Bool, true, not, cond, List, ◌∷◌, Some, find, length, sym, ap, ◌∙◌, arith}
use Rattle.std.specs.List.{range_with_len}
use Rattle.ddf_import.specs.Joined.{is_taken}

range_step : (n len : ℕ) → n < len → range_with_len n (len - n) ≡ n ∷ range_with_len (n + 1) (len - (n + 1))
range_step n len less = let more : len - n ≡ suc (len - (n + 1)) = omega (arith, less) in ap (range_with_len n) more

pub skip_taken : (taken : List ℕ) (n : ℕ) → n < length taken → is_taken taken n ≡ true
    → find (λ number. not (is_taken taken number)) (range_with_len (n + 1) (length taken - (n + 1))) ≡ find (λ number. not (is_taken taken number)) (range_with_len n (length taken - n))
skip_taken taken n less is =
    sym
    (ap (find (λ number. not (is_taken taken number))) (range_step n (length taken) less)
    ∙ ap (λ (b : Bool). cond (not b) (Some n) (find (λ number. not (is_taken taken number)) (range_with_len (n + 1) (length taken - (n + 1))))) is)
