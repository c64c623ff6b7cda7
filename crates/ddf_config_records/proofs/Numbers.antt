-- Numbers that are written one after another.
use Rattle.std.proofs.Common.{◌≡◌, ℕ, ◌+◌, ◌*◌, ◌<◌, ◌≤◌, List, [], ◌∷◌, ◌++◌, length, take, get_or, sym, ◌∙◌, ap, arith}
use Rattle.std.specs.List.{flat_map}
use Rattle.std.proofs.lemmas.List.{take_more, length-take-le, length-append, append-nil}
use Rattle.std.proofs.lemmas.List.Concat.{flat_map-append}
use Rattle.ddf_seal.specs.Unread.{placed}
use Rattle.ddf_seal.proofs.Same.{placed_after}

pub length-all : {X : Type 0} (f : X → List ℕ) (size : ℕ) (xs : List X) → ((x : X) → length (f x) ≡ size) → length (flat_map f xs) ≡ size * length xs
length-all f size [] each = omega arith
length-all f size (x ∷ xs) each =
    let rest = length-all f size xs each in
    let one = each x in
    omega (arith, length-append (f x) (flat_map f xs), rest, one)

-- one more of them, placed behind the others
pub one_more : {X : Type 0} (f : X → List ℕ) (size at : ℕ) (bytes : List ℕ) (xs : List X) (i : ℕ) (x : X) → ((x : X) → length (f x) ≡ size) → i < length xs → at + size * length xs ≤ length bytes
    → placed (placed bytes at (flat_map f (take i xs))) (at + size * i) (f (get_or xs i x)) ≡ placed bytes at (flat_map f (take (i + 1) xs))
one_more f size at bytes xs i x each lt within =
    let done = flat_map f (take i xs) in
    let one = f (get_or xs i x) in
    let len : length done ≡ size * i = length-all f size (take i xs) each ∙ ap (λ n. size * n) (length-take-le i xs (omega arith)) in
    let here : at + size * i ≡ at + length done = omega arith in
    let fits : at + length done + length one ≤ length bytes = grind (arith, each (get_or xs i x)) in
    ap (λ k. placed (placed bytes at done) k one) here ∙ placed_after bytes at done one fits
    ∙ ap (placed bytes at) (ap (λ l. done ++ l) (sym (append-nil one)) ∙ sym (flat_map-append f (take i xs) (get_or xs i x ∷ [])) ∙ ap (flat_map f) (sym (take_more xs i x lt)))
