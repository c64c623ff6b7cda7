use Rattle.std.proofs.Common.{◌≡◌, map, take}
use Rattle.ddf_plan.specs.Lose.{out_of_sync}
use Rattle.ddf_plan.proofs.lose.positions_out.Given as goal

abbrev pub invariant-loop-position : goal.invariant-loop-position
invariant-loop-position l = l.out.items ≡ map out_of_sync (take l.position-index l.positions)
