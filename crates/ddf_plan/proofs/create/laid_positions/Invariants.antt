use Rattle.std.proofs.Common.{◌≡◌, map, take}
use Rattle.ddf_plan.specs.Create.{laid_position}
use Rattle.ddf_plan.proofs.create.laid_positions.Given as goal

abbrev pub invariant-loop-position : goal.invariant-loop-position
invariant-loop-position l = l.placed.items ≡ map (laid_position l.members.entries l.all l.strip l.blocks) (take l.position-index l.positions)
