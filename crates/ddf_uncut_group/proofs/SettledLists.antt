-- Lists by their items, and of those that a test keeps.
use Rattle.std.proofs.Common.{◌≡◌, ℕ, suc, ◌<◌, List, [], ◌∷◌, length, Some, refl, ap, ◌∙◌, arith}
use Rattle.std.specs.Prelude.{slice_get}

-- Two lists of one length with the same items are the same.
pub same_list : {X : Type 0} (xs ys : List X) → length xs ≡ length ys → ((i : ℕ) → i < length xs → slice_get xs i ≡ slice_get ys i) → xs ≡ ys
same_list [] [] long same = refl
same_list [] (y ∷ ys) long same = absurd (omega (arith, long))
same_list (x ∷ xs) [] long same = absurd (omega (arith, long))
same_list {X = X} (x ∷ xs) (y ∷ ys) long same =
    let first : x ≡ y = let here : Some x ≡ Some y = same 0 (omega arith) in cc in
    ap (λ (one : X). one ∷ xs) first
    ∙ ap (λ (rest : List X). y ∷ rest) (same_list xs ys (omega (arith, long)) (λ i below. same (suc i) (omega (arith, below))))
