use Rattle.std.proofs.Common.{◌*◌, ◌^◌}
use Rattle.ddf_linux.proofs.ZeroSteps.{bytes_doubled}
use Rattle.ddf_linux.proofs.zeros.sector_images.Goals as goal

pub loop-preserved : goal.loop-preserved
loop-preserved c = rw (bytes_doubled c.loop.counter) at (c.twice-images.ensures (8 * 2 ^ c.loop.counter) c.loop.invariant)
