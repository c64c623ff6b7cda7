-- A write to a part of a slice.
use Rattle.std.proofs.Common.{◌≡◌, ℕ, ◌+◌, List, ◌++◌, length, take, drop, sym, ◌∙◌, ap}
use Rattle.std.proofs.lemmas.List.{append_assoc, drop-drop}
use borrow.Rule.Slice.PartMut.{put_mid}
use Rattle.ddf_seal.specs.Unread.{placed}

pub put_mid_placed : (at k : ℕ) (xs ys zs : List ℕ) → ys ≡ zs → k ≡ length zs → put_mid at k xs ys ≡ placed xs at zs
unfolding placed
put_mid_placed at k xs ys zs same size =
    ap (λ (l : List ℕ). take at xs ++ (l ++ drop k (drop at xs))) same ∙ ap (λ (n : ℕ). take at xs ++ (zs ++ drop n (drop at xs))) size
    ∙ ap (λ (l : List ℕ). take at xs ++ (zs ++ l)) (drop-drop (length zs) at xs) ∙ sym (append_assoc (take at xs) zs (drop (at + length zs) xs))
