-- The first item that passes a test, found item by item.
use Rattle.std.proofs.Common.{◌≡◌, ℕ, ◌+◌, ◌<◌, Bool, true, false, List, [], ◌∷◌, length, get_or, take, drop, Some, None, find, sym, ap, ◌∙◌}
use Rattle.std.specs.Option.{option_or}
use Rattle.std.proofs.lemmas.Bool.{cond-true, cond-false}
use Rattle.std.proofs.lemmas.List.{take_more, take-append-drop}
use Rattle.std.proofs.lemmas.List.Folds.{find-append}

module _ {X : Type 0} (p : X → Bool) (xs : List X) (i : ℕ) (d : X) (below : i < length xs) (none : find p (take i xs) ≡ None) where
  next : find p (take (i + 1) xs) ≡ find p (get_or xs i d ∷ [])
  next =
      ap (find p) (take_more xs i d below) ∙ find-append p (take i xs) (get_or xs i d ∷ [])
      ∙ ap (λ r. option_or r (find p (get_or xs i d ∷ []))) none

  -- the item passes, and is the first of all
  pub find_here : p (get_or xs i d) ≡ true → find p xs ≡ Some (get_or xs i d)
  find_here passes =
      ap (find p) (sym (take-append-drop (i + 1) xs)) ∙ find-append p (take (i + 1) xs) (drop (i + 1) xs)
      ∙ ap (λ r. option_or r (find p (drop (i + 1) xs))) (next ∙ cond-true _ _ _ passes)

  -- it doesn't, and the search goes on
  pub find_not_here : p (get_or xs i d) ≡ false → find p (take (i + 1) xs) ≡ None
  find_not_here fails = next ∙ cond-false _ _ _ fails
