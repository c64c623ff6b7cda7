use Rattle.std.proofs.Common.{◌≡◌, map, option_map, take}
use Rattle.ddf_plan.specs.Mark.{without_rows}
use Rattle.ddf_plan.proofs.mark.parts_without_rows.Given as goal

abbrev pub invariant-loop-part : goal.invariant-loop-part
invariant-loop-part l = l.without.items ≡ map (option_map without_rows) (take l.part-index l.parts)
