use Rattle.std.proofs.Common.{◌≡◌, ◌++◌, drop, map}
use Rattle.std.specs.List.{enumerate_from}
use Rattle.arrayvec.specs.ArrayVec.{array_vec_len}
use Rattle.ddf_plan.specs.Arrays.{position_after}
use Rattle.ddf_plan.proofs.rebuild.positions_after.Given as goal

abbrev pub invariant-loop-number : goal.invariant-loop-number
invariant-loop-number l = record {
  made : l.after.items ++ map (λ pair. position_after l.change pair.0 pair.1) (enumerate_from l.number (drop l.number l.positions))
      ≡ map (λ pair. position_after l.change pair.0 pair.1) (enumerate_from 0 l.positions);
  count : array_vec_len l.after ≡ l.number;
}
