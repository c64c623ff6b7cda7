use Rattle.std.proofs.Common.{◌≡◌, ◌≤◌, ◌*◌, ◌+◌, drop}
use Rattle.std.specs.List.{sum}
use Rattle.ddf_exercise.specs.Blocks.{bytes_of_blocks}
use Rattle.ddf_exercise.proofs.blocks.sum_of_blocks.Given as goal

abbrev pub invariant-loop-block : goal.invariant-loop-block
invariant-loop-block l = record {
  to_come : l.sum + sum (bytes_of_blocks (drop l.block-index l.blocks)) ≡ sum (bytes_of_blocks l.blocks);
  few : l.sum ≤ 512 * (255 * l.block-index);
}
