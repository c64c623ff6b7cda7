use Rattle.std.proofs.Common.{◌≡◌, take}
use Rattle.ddf_request.specs.NewArray.{slots_of}
use Rattle.ddf_request.proofs.new_array.slots_of.Given as goal

abbrev pub invariant-loop-element : goal.invariant-loop-element
invariant-loop-element l = l.slots.items ≡ slots_of (take l.element-index l.elements)
