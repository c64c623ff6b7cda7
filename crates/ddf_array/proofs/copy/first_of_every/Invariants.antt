use Rattle.std.proofs.Common.{◌≡◌, []}
use Rattle.std.specs.List.{flat_map, range_with_len}
use Rattle.ddf_array.specs.Sources.{element_copies, at_element}
use Rattle.ddf_array.proofs.copy.first_of_every.Given as goal

abbrev pub invariant-loop-element : goal.invariant-loop-element
invariant-loop-element l = flat_map (at_element l.view.parts element_copies l.block) (range_with_len 0 l.element) ≡ []
