use Rattle.std.proofs.Common.{◌<◌, ◌+◌, [], length, get_or, sym, arith}
use Rattle.ddf_linux.specs.TurnLaws.{turn_plain}
use Rattle.ddf_linux.proofs.kind.SlotKind.turn_run.Goals as goal

pub returns-then-is_plain_below-clause-each : goal.returns-then-is_plain_below-clause-each
returns-then-is_plain_below-clause-each c = λ k lt.
    let under : c.args.lba + k < c.args.lba + length c.args.sectors.now = omega (arith, lt) in
    let sector = get_or c.args.sectors.now k [] in
    sym (turn_plain c.args.self.now (c.args.lba + k) sector (c.is_plain_below.ensures c.if-is_plain_below.true (c.args.lba + k) sector under))
