use Rattle.std.proofs.Common.{◌≡◌, map, take}
use Rattle.ddf_plan.specs.Mark.{without_row}
use Rattle.ddf_plan.proofs.mark.positions_without_row.Given as goal

abbrev pub invariant-loop-position : goal.invariant-loop-position
invariant-loop-position l = l.without.items ≡ map without_row (take l.position-index l.positions)
