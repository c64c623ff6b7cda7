use Rattle.std.proofs.Common.{ℕ, ◌<◌}
use Rattle.ddf_read.specs.Along.{IsAlongAt}
use Rattle.ddf_read.proofs.strip.left_at_each.Given as goal

abbrev pub invariant-loop-element : goal.invariant-loop-element
invariant-loop-element l = record {
  some : 0 < l.left;
  along : (element : ℕ) → element < l.element → IsAlongAt l.view element l.block l.left;
}
