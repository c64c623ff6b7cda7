-- Causes in order, of which the first decides.
use Rattle.std.specs.Prelude.{Bool, List, [], ◌∷◌, Option, Some, None, map, if◌then◌else◌}
use Rattle.ddf_config.specs.declared.refusal.Refusal.{Refusal}
use Rattle.ddf_config.specs.ElementValue.{ElementValue}

-- the first of several refusals in order
abbrev pub first_refusal : List (Option Refusal) → Option Refusal
first_refusal [] = None
first_refusal (check ∷ checks) = elim check [ None ↦ first_refusal checks | Some refusal ↦ Some refusal ]

abbrev pub refuse_if : Bool → Refusal → Option Refusal
refuse_if holds refusal = if holds then Some refusal else None

-- that of the first element that refuses
abbrev pub part_refusal : (Option ElementValue → Option Refusal) → List (Option ElementValue) → Option Refusal
part_refusal check parts = first_refusal (map check parts)
