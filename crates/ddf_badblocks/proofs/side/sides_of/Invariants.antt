use Rattle.std.proofs.Common.{◌≡◌, ◌++◌, drop}
use Rattle.ddf_badblocks.specs.Sides.{sides_of}
use Rattle.ddf_badblocks.proofs.side.sides_of.Given as goal

abbrev pub invariant-loop-range : goal.invariant-loop-range
invariant-loop-range l = l.sides.items ++ sides_of (drop l.range-index l.ranges) ≡ sides_of l.ranges
