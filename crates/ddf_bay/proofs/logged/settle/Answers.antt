use Rattle.std.proofs.Common.{◌<◌, length}
use Rattle.ddf_bay.specs.Logged.{settled_one}
use Rattle.ddf_bay.proofs.Mapped.{mapped_more}
use Rattle.ddf_bay.proofs.logged.settle.Goals as goal

pub loop-write-preserved : goal.loop-write-preserved
loop-write-preserved c =
    let lt : c.loop-write.write-index < length c.args.logged.now = c.loop-write-test.true in
    rw c.settle_one.ensures (mapped_more (settled_one c.args.slot c.args.now) c.args.logged.now c.loop-write.logged c.loop-write.write-index _ lt c.loop-write.invariant)
