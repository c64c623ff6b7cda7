use Rattle.std.proofs.Common.{◌≡◌, ◌++◌, drop, map}
use Rattle.std.specs.List.{enumerate_from}
use Rattle.ddf_plan.specs.Arrays.{part_after}
use Rattle.ddf_plan.proofs.rebuild.parts_after.Given as goal

abbrev pub invariant-loop-number : goal.invariant-loop-number
invariant-loop-number l =
    l.after.items ++ map (part_after l.revertible l.change l.named) (enumerate_from l.number (drop l.number l.parts))
    ≡ map (part_after l.revertible l.change l.named) (enumerate_from 0 l.parts)
