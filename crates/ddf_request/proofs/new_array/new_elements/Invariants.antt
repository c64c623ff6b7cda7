use Rattle.std.proofs.Common.{◌≡◌, map, take, Some}
use Rattle.ddf_request.specs.NewArray.{new_element}
use Rattle.ddf_request.proofs.new_array.new_elements.Given as goal

abbrev pub invariant-loop-element : goal.invariant-loop-element
invariant-loop-element l = l.parts.items ≡ map (λ element. Some (new_element l.seats l.creation element)) (take l.element-index l.elements)
