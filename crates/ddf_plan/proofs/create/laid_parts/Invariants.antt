use Rattle.std.proofs.Common.{◌≡◌, length, map, option_map, take}
use Rattle.ddf_plan.specs.Create.{laid_element}
use Rattle.ddf_plan.proofs.create.laid_parts.Given as goal

abbrev pub invariant-loop-part : goal.invariant-loop-part
invariant-loop-part l = l.placed.items ≡ map (option_map (laid_element l.members.entries l.all (length l.parts))) (take l.part-index l.parts)
