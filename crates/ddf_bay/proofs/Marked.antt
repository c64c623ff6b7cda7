-- One step of the loop that marks the logged writes which a stop keeps.
use Rattle.std.proofs.Common.{◌≡◌, ℕ, zero, suc, ◌+◌, ◌<◌, List, [], ◌∷◌, ◌++◌, length, get_or, take, drop, set, sym, ◌∙◌, ap, arith, add-one}
use Rattle.std.specs.Prelude.{Bool}
use Rattle.ddf_bay.specs.declared.logged_write.LoggedWrite.{LoggedWrite}
use Rattle.ddf_bay.specs.Logged.{marked}

step : (now : ℕ) (rest rest' : List Bool) (rs : List LoggedWrite) (i : ℕ) (x d : LoggedWrite) → i < length rs
    → ((behind : List LoggedWrite) → marked now rest (get_or rs i d ∷ behind) ≡ x ∷ marked now rest' behind)
    → take (suc i) (set rs i x) ++ marked now rest' (drop (suc i) (set rs i x)) ≡ take i rs ++ marked now rest (drop i rs)
step now rest rest' [] i x d lt one = absurd (omega (arith, lt))
step now rest rest' (r ∷ rs) zero x d lt one = sym (one rs)
step now rest rest' (r ∷ rs) (suc i) x d lt one = ap (λ ys. r ∷ ys) (step now rest rest' rs i x d (omega (arith, lt)) one)

pub marked_more : (now : ℕ) (rest rest' : List Bool) (rs target : List LoggedWrite) (i : ℕ) (x d : LoggedWrite) → i < length rs
    → take i rs ++ marked now rest (drop i rs) ≡ target
    → ((behind : List LoggedWrite) → marked now rest (get_or rs i d ∷ behind) ≡ x ∷ marked now rest' behind)
    → take (i + 1) (set rs i x) ++ marked now rest' (drop (i + 1) (set rs i x)) ≡ target
marked_more now rest rest' rs target i x d lt so_far one = rw add-one (step now rest rest' rs i x d lt one ∙ so_far)
