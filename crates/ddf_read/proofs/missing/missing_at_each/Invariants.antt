use Rattle.std.proofs.Common.{◌≡◌, []}
use Rattle.std.specs.List.{flat_map, range_with_len}
use Rattle.ddf_array.specs.Sources.{at_element, element_rows}
use Rattle.ddf_read.proofs.missing.missing_at_each.Given as goal

abbrev pub invariant-loop-element : goal.invariant-loop-element
invariant-loop-element l = flat_map (at_element l.view.parts element_rows l.block) (range_with_len 0 l.element) ≡ []
