use Rattle.std.proofs.Common.{◌≡◌, map, take}
use Rattle.ddf_plan.specs.Lose.{lost_position}
use Rattle.ddf_plan.proofs.lose.lost_positions.Given as goal

abbrev pub invariant-loop-position : goal.invariant-loop-position
invariant-loop-position l = l.lost.items ≡ map (lost_position l.references) (take l.position-index l.positions)
