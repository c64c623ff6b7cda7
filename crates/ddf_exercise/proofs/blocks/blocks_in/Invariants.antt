use Rattle.std.proofs.Common.{◌≡◌, ◌≤◌, ◌*◌, take}
use Rattle.std.specs.List.{sum_by}
use Rattle.ddf_exercise.specs.Blocks.{written_by}
use Rattle.ddf_exercise.proofs.blocks.blocks_in.Given as goal

abbrev pub invariant-loop-step : goal.invariant-loop-step
invariant-loop-step l = record {
  so_far : l.blocks ≡ sum_by written_by (take l.step-index l.steps);
  few : l.blocks ≤ 8192 * l.step-index;
}
