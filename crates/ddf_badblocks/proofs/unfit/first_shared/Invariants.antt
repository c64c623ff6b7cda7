use Rattle.std.proofs.Common.{◌≡◌, ◌-◌, ◌<◌, ◌≤◌, true, false, length, take}
use Rattle.ddf_badblocks.specs.Ranges.{are_exchangeable}
use Rattle.ddf_badblocks.proofs.unfit.first_shared.Given as goal

abbrev pub invariant-loop-cannot : goal.invariant-loop-cannot
invariant-loop-cannot l = record {
  some : l.can < l.cannot;
  most : l.cannot ≤ length l.ranges;
  before : are_exchangeable l.size (take l.can l.ranges) ≡ true;
  met : are_exchangeable l.size (take l.cannot l.ranges) ≡ false;
}

abbrev pub decreases-loop-cannot : goal.decreases-loop-cannot
decreases-loop-cannot l = l.cannot - l.can
