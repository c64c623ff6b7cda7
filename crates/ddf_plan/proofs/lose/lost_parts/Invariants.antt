use Rattle.std.proofs.Common.{◌≡◌, map, option_map, take}
use Rattle.ddf_plan.specs.Lose.{lost_element}
use Rattle.ddf_plan.proofs.lose.lost_parts.Given as goal

abbrev pub invariant-loop-part : goal.invariant-loop-part
invariant-loop-part l = l.lost.items ≡ map (option_map (lost_element l.references)) (take l.part-index l.parts)
