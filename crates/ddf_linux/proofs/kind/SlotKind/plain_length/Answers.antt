use Rattle.std.proofs.Common.{◌<◌, ◌+◌, [], length, get_or, arith}
use Rattle.ddf_linux.proofs.kind.SlotKind.plain_length.Goals as goal

pub returns-then-is_plain_below-clause-plain : goal.returns-then-is_plain_below-clause-plain
returns-then-is_plain_below-clause-plain c = λ k lt.
    let under : c.args.lba + k < c.args.lba + length c.args.sectors.now = omega (arith, lt) in
    c.is_plain_below.ensures c.if-is_plain_below.true (c.args.lba + k) (get_or c.args.sectors.now k []) under
