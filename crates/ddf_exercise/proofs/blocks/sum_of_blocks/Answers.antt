use Rattle.std.proofs.Common.{◌+◌, ◌*◌, ap, ℕ, arith}
use Rattle.ddf_exercise.proofs.Filling.{sum_on}
use Rattle.ddf_exercise.proofs.blocks.sum_of_blocks.Goals as goal

pub loop-block-preserved : goal.loop-block-preserved
loop-block-preserved c = record {
  to_come = sum_on c.args.blocks.now c.loop-block.block-index c.loop-block.sum (c.loop-block.sum + 512 * c.from.result) _ c.loop-block-test.true c.loop-block.invariant.to_come
      (ap (λ (byte : ℕ). c.loop-block.sum + 512 * byte) c.from.ensures);
  few = omega (arith, c.type_inv.blocks c.loop-block.block-index);
}
