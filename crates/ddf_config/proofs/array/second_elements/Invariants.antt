use Rattle.std.proofs.Common.{◌≡◌, take}
use Rattle.ddf_config.proofs.array.second_elements.Given as goal

abbrev pub invariant-loop-element : goal.invariant-loop-element
invariant-loop-element l = l.second.items ≡ take l.element-index l.elements
