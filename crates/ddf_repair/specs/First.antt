-- The first position of an array that is out of sync, by element and position.
use Rattle.std.specs.Prelude.{ℕ, ◌+◌, List, [], ◌∷◌, Option, Some, None, length, find}
use Rattle.std.specs.List.{enumerate_from}
use Rattle.ddf_config.specs.declared.element.Position.{Position}
use Rattle.ddf_config.specs.declared.array.Array.{Array}
use Rattle.ddf_config.specs.ElementValue.{ElementValue}
use Rattle.ddf_config.specs.States.{is_out}
use Rattle.ddf_plan.specs.Create.{element_strip}
use Rattle.ddf_repair.specs.declared.first.Out.{Out}

-- a position of an element of an array with so many elements, by their numbers
abbrev pub out_at : ℕ → ℕ → ElementValue → (ℕ × Position) → Out
out_at elements element plan at = record {
  target = record { element = element; position = at.0 };
  reference = at.1.reference;
  strip = element_strip elements plan;
  blocks = plan.blocks;
}

-- the first of an element that is out of sync, with its number
abbrev pub out_in : ElementValue → Option (ℕ × Position)
out_in plan = find (λ at. is_out at.1) (enumerate_from 0 plan.positions)

abbrev pub part_out : ℕ → ℕ → Option ElementValue → Option Out
part_out elements element part =
    elim part [
      | None ↦ None
      | Some plan ↦ elim (out_in plan) [ None ↦ None | Some at ↦ Some (out_at elements element plan at) ]
    ]

-- of the elements from a number on
abbrev pub out_from : ℕ → ℕ → List (Option ElementValue) → Option Out
out_from elements element [] = None
out_from elements element (part ∷ parts) = elim (part_out elements element part) [ None ↦ out_from elements (element + 1) parts | Some out ↦ Some out ]

abbrev pub first_out : Array → Option Out
first_out array = out_from (length array.elements) 0 array.elements
