use Rattle.std.proofs.Common.{◌<◌, ◌≤◌}
use Rattle.ddf_write.proofs.touching.untouched_from.Given as goal

abbrev pub invariant-loop-position : goal.invariant-loop-position
invariant-loop-position l = record {
  some : 0 < l.count;
  within : l.count ≤ l.most;
}
