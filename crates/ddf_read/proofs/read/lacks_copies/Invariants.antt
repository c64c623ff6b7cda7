use Rattle.std.proofs.Common.{◌≡◌, ◌≤◌, ◌-◌, false}
use Rattle.std.specs.List.{list_any, range_with_len}
use Rattle.ddf_read.specs.Refused.{lacks_copy}
use Rattle.ddf_read.proofs.read.lacks_copies.Given as goal

abbrev pub invariant-loop-at : goal.invariant-loop-at
invariant-loop-at l = record {
  inside : l.at ≤ l.count;
  none : list_any (lacks_copy l.view) (range_with_len l.start l.at) ≡ false;
}

abbrev pub decreases-loop-at : goal.decreases-loop-at
decreases-loop-at l = l.count - l.at
