-- Causes in order, of which the last ones stand apart.
use Rattle.std.proofs.Common.{◌≡◌, List, [], ◌∷◌, ◌++◌, Option, Some, None, refl}
use Rattle.ddf_config.specs.declared.refusal.Refusal.{Refusal}
use Rattle.ddf_config.specs.Refusals.{first_refusal}

-- the first of two lists is that of the first list, and else that of the second
pub first_behind : (checks others : List (Option Refusal)) → first_refusal (first_refusal checks ∷ others) ≡ first_refusal (checks ++ others)
first_behind [] others = refl
first_behind (None ∷ checks) others = first_behind checks others
first_behind (Some refusal ∷ checks) others = refl
