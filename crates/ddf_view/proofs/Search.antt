-- A search through a list from a place on: what is found at the first item at which something is.
use Rattle.std.proofs.Common.{◌≡◌, ℕ, suc, ◌+◌, ◌<◌, ◌≤◌, List, [], ◌∷◌, length, get_or, drop, Option, Some, None, ap, sym, ◌∙◌, add-one}
use Rattle.std.proofs.Math.Seq.{drop-cons}
use Rattle.std.proofs.lemmas.List.{drop_all}
use Rattle.std.specs.Option.{option_or}

module _ {S X : Type 0} (at : ℕ → S → Option X) (whole : ℕ → List S → Option X)
    (none : (n : ℕ) → whole n [] ≡ None) (more : (n : ℕ) (s : S) (ss : List S) → whole n (s ∷ ss) ≡ option_or (at n s) (whole (n + 1) ss))
    (all : List S) (i : ℕ) (so_far : whole i (drop i all) ≡ whole 0 all) where
  here : (s : S) → i < length all → s ≡ get_or all i s → whole 0 all ≡ option_or (at i s) (whole (i + 1) (drop (i + 1) all))
  here s below is =
      sym so_far ∙ ap (whole i) (drop-cons all i s below) ∙ more i (get_or all i s) (drop (suc i) all)
      ∙ ap (λ (x : S). option_or (at i x) (whole (i + 1) (drop (suc i) all))) (sym is)
      ∙ ap (λ (n : ℕ). option_or (at i s) (whole (i + 1) (drop n all))) (sym (add-one i))

  -- something is found at this item
  pub found : (s : S) (x : X) → i < length all → s ≡ get_or all i s → at i s ≡ Some x → whole 0 all ≡ Some x
  found s x below is there = here s below is ∙ ap (λ (o : Option X). option_or o (whole (i + 1) (drop (i + 1) all))) there

  -- nothing is
  pub passed : (s : S) → i < length all → s ≡ get_or all i s → at i s ≡ None → whole (i + 1) (drop (i + 1) all) ≡ whole 0 all
  passed s below is there = sym (here s below is ∙ ap (λ (o : Option X). option_or o (whole (i + 1) (drop (i + 1) all))) there)

  -- there is no item left
  pub ended : length all ≤ i → whole 0 all ≡ None
  ended past = sym so_far ∙ ap (whole i) (drop_all i all past) ∙ none i
