use Rattle.std.proofs.Common.{◌≡◌, ◌++◌, drop}
use Rattle.ddf_exercise.specs.Blocks.{bytes_of_blocks}
use Rattle.ddf_exercise.proofs.blocks.bytes_of_blocks.Given as goal

abbrev pub invariant-loop-block : goal.invariant-loop-block
invariant-loop-block l = l.bytes.items ++ bytes_of_blocks (drop l.block-index l.blocks) ≡ bytes_of_blocks l.blocks
