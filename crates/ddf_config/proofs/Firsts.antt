-- The first refusal of a list, found item by item.
use Rattle.std.proofs.Common.{◌≡◌, ℕ, ◌+◌, ◌<◌, List, [], ◌∷◌, ◌++◌, length, get_or, take, drop, map, Option, Some, None, refl, sym, ap, ◌∙◌}
use Rattle.std.specs.Option.{option_or}
use Rattle.std.proofs.lemmas.List.{take_more, take-append-drop, map-append}
use Rattle.ddf_config.specs.declared.refusal.Refusal.{Refusal}
use Rattle.ddf_config.specs.Refusals.{first_refusal}

pub first_append : (xs ys : List (Option Refusal)) → first_refusal (xs ++ ys) ≡ option_or (first_refusal xs) (first_refusal ys)
first_append [] ys = refl
first_append (None ∷ xs) ys = first_append xs ys
first_append (Some refusal ∷ xs) ys = refl

pub first_of_one : (r : Option Refusal) → first_refusal (r ∷ []) ≡ r
first_of_one None = refl
first_of_one (Some refusal) = refl

module _ {X : Type 0} (f : X → Option Refusal) (xs : List X) (i : ℕ) (d : X) (below : i < length xs) (none : first_refusal (map f (take i xs)) ≡ None) where
  next : first_refusal (map f (take (i + 1) xs)) ≡ f (get_or xs i d)
  next =
      ap (λ l. first_refusal (map f l)) (take_more xs i d below)
      ∙ ap first_refusal (map-append f (take i xs) (get_or xs i d ∷ []))
      ∙ first_append (map f (take i xs)) (f (get_or xs i d) ∷ [])
      ∙ ap (λ r. option_or r (first_refusal (f (get_or xs i d) ∷ []))) none
      ∙ first_of_one (f (get_or xs i d))

  -- the item refuses, and is the first of all
  pub first_here : (refusal : Refusal) → f (get_or xs i d) ≡ Some refusal → first_refusal (map f xs) ≡ Some refusal
  first_here refusal refuses =
      ap (λ l. first_refusal (map f l)) (sym (take-append-drop (i + 1) xs))
      ∙ ap first_refusal (map-append f (take (i + 1) xs) (drop (i + 1) xs))
      ∙ first_append (map f (take (i + 1) xs)) (map f (drop (i + 1) xs))
      ∙ ap (λ r. option_or r (first_refusal (map f (drop (i + 1) xs)))) (next ∙ refuses)

  -- it doesn't
  pub first_not_here : f (get_or xs i d) ≡ None → first_refusal (map f (take (i + 1) xs)) ≡ None
  first_not_here passes = next ∙ passes

module _ (xs : List (Option Refusal)) (i : ℕ) (d : Option Refusal) (below : i < length xs) (none : first_refusal (take i xs) ≡ None) where
  next_check : first_refusal (take (i + 1) xs) ≡ get_or xs i d
  next_check =
      ap first_refusal (take_more xs i d below) ∙ first_append (take i xs) (get_or xs i d ∷ [])
      ∙ ap (λ r. option_or r (first_refusal (get_or xs i d ∷ []))) none ∙ first_of_one (get_or xs i d)

  pub check_refuses : (refusal : Refusal) → get_or xs i d ≡ Some refusal → first_refusal xs ≡ Some refusal
  check_refuses refusal refuses =
      ap first_refusal (sym (take-append-drop (i + 1) xs)) ∙ first_append (take (i + 1) xs) (drop (i + 1) xs)
      ∙ ap (λ r. option_or r (first_refusal (drop (i + 1) xs))) (next_check ∙ refuses)

  pub check_passes : get_or xs i d ≡ None → first_refusal (take (i + 1) xs) ≡ None
  check_passes passes = next_check ∙ passes

-- where the whole list refuses nothing, no check does
pub all_pass : (before : List (Option Refusal)) (check : Option Refusal) (behind : List (Option Refusal)) → first_refusal (before ++ check ∷ behind) ≡ None → check ≡ None
all_pass [] None behind e = refl
all_pass [] (Some refusal) behind e = absurd (cc)
all_pass (None ∷ before) check behind e = all_pass before check behind e
all_pass (Some refusal ∷ before) check behind e = absurd (cc)
