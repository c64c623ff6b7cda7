use Rattle.std.proofs.Common.{◌≡◌, None, find, take}
use Rattle.ddf_plan.specs.Floors.{lacks_extent}
use Rattle.ddf_plan.proofs.floors.first_without_extent.Given as goal

abbrev pub invariant-loop-position : goal.invariant-loop-position
invariant-loop-position l = find (lacks_extent l.config l.floors l.strip l.blocks) (take l.position-index l.positions) ≡ None
