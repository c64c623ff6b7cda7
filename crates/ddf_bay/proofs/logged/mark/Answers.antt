use Rattle.std.proofs.Common.{◌<◌, length, arith}
use Rattle.ddf_bay.proofs.Marked.{marked_more}
use Rattle.ddf_bay.proofs.logged.mark.Goals as goal

pub loop-write-preserved : goal.loop-write-preserved
loop-write-preserved c =
    let lt : c.loop-write.write-index < length c.loop-write.logged = omega (arith, c.loop-write-test.true, c.loop-write.auto.logged) in
    marked_more _ _ _ c.loop-write.logged _ c.loop-write.write-index _ _ lt c.loop-write.invariant c.mark_one-rest.ensures
