use Rattle.std.proofs.Common.{◌≡◌, drop, length}
use Rattle.ddf_exercise.specs.Blocks.{blocks_behind, zero_blocks}
use Rattle.ddf_exercise.proofs.blocks.blocks_behind.Given as goal

abbrev pub invariant-loop-step : goal.invariant-loop-step
invariant-loop-step l = record {
  long : length l.blocks.items ≡ l.count;
  to_come : blocks_behind (drop l.step-index l.steps) l.blocks.items ≡ blocks_behind l.steps (zero_blocks l.count);
}
