use Rattle.std.proofs.Common.{◌≡◌, ◌++◌, map, take}
use Rattle.ddf_rewrite.specs.Copies.{element_item}
use Rattle.ddf_rewrite.proofs.slots.push_elements.Given as goal

abbrev pub invariant-loop-holding : goal.invariant-loop-holding
invariant-loop-holding l = l.all.items ≡ l.fn.all.items ++ map element_item (take l.holding-index l.holdings)
