use Rattle.std.proofs.Common.{arith}
use Rattle.ddf_parity.proofs.Xored.{lanes_more, whole}
use Rattle.ddf_parity.proofs.xor.xor_into.Goals as goal

pub loop-at-preserved : goal.loop-at-preserved
loop-at-preserved c =
    rw c.xor_lanes.ensures (lanes_more c.args.into.now c.args.from.now c.loop-at.into c.loop-at.at c.loop-at.invariant (omega arith))

pub returns : goal.returns
returns c = whole c.args.into.now c.args.from.now c.loop-at-2.into c.loop-at-2.at c.loop-at-2.invariant (omega arith)
