use Rattle.std.proofs.Common.{◌≡◌, ℕ, ◌-◌, ◌<◌, ◌≤◌, true, false}
use Rattle.ddf_repair.specs.Spares.{has_room}
use Rattle.ddf_repair.proofs.most.most_within.Given as goal

abbrev pub invariant-loop-low : goal.invariant-loop-low
invariant-loop-low l = record {
  order : l.low ≤ l.high;
  within : l.high ≤ l.limit;
  has : 0 < l.low → has_room l.taken l.limit l.strip l.low ≡ true;
  none : (n : ℕ) → l.high < n → n ≤ l.limit → has_room l.taken l.limit l.strip n ≡ false;
}

abbrev pub decreases-loop-low : goal.decreases-loop-low
decreases-loop-low l = l.high - l.low
