-- The first two of three causes for which an array can't be used.
use Rattle.std.proofs.Common.{◌≡◌, ℕ, Bool, true, false, not, List, [], ◌∷◌, map, Option, Some, None, refl}
use Rattle.ddf_config.specs.declared.refusal.Refusal.{Refusal}
use Rattle.ddf_config.specs.declared.refusal.Refusal.TheVariants.{Level, Lost, Shape}
use Rattle.ddf_config.specs.ElementValue.{ElementValue}
use Rattle.ddf_config.specs.Levels.{is_level_of, level_refusal}
use Rattle.ddf_config.specs.Refusals.{first_refusal, refuse_if}
use Rattle.ddf_request.specs.FirstCauses.{is_useless}

-- ---- a level that isn't served

level_first : (served : Bool) (code : ℕ) (checks : List (Option Refusal)) (refusal : Refusal) → ((one : Refusal) → first_refusal checks ≡ Some one → is_useless (Some one) ≡ true)
    → first_refusal (refuse_if (not served) (Level code) ∷ checks) ≡ Some refusal → is_useless (Some refusal) ≡ true
level_first true code checks refusal later h = later refusal h
level_first false code checks refusal later h = let same : Level code ≡ refusal = cc in rw (← same) refl

pub levels_useless : (guid : List ℕ) (parts : List (Option ElementValue)) (refusal : Refusal) → first_refusal (map (level_refusal guid) parts) ≡ Some refusal → is_useless (Some refusal) ≡ true
levels_useless guid [] refusal h = absurd cc
levels_useless guid (None ∷ parts) refusal h = levels_useless guid parts refusal h
levels_useless guid (Some element ∷ parts) refusal h = level_first (is_level_of guid element) element.level (map (level_refusal guid) parts) refusal (levels_useless guid parts) h

-- ---- the first of three

-- one of the first two is the first of both
pub first_of_two : (unserved shape : Option Refusal) (unknown : Bool) → is_useless (first_refusal (unserved ∷ shape ∷ refuse_if unknown Lost ∷ [])) ≡ true
    → first_refusal (unserved ∷ shape ∷ refuse_if unknown Lost ∷ []) ≡ first_refusal (unserved ∷ shape ∷ [])
first_of_two (Some refusal) shape unknown h = refl
first_of_two None (Some refusal) unknown h = refl
first_of_two None None true h = absurd cc
first_of_two None None false h = absurd cc

-- else there is none
pub none_of_both : (unserved : Option Refusal) (ill unknown : Bool) → ((refusal : Refusal) → unserved ≡ Some refusal → is_useless (Some refusal) ≡ true)
    → is_useless (first_refusal (unserved ∷ refuse_if ill Shape ∷ refuse_if unknown Lost ∷ [])) ≡ false → None ≡ first_refusal (unserved ∷ refuse_if ill Shape ∷ [])
none_of_both (Some refusal) ill unknown each h = let is : is_useless (Some refusal) ≡ true = each refusal refl in absurd cc
none_of_both None true unknown each h = absurd cc
none_of_both None false unknown each h = refl
