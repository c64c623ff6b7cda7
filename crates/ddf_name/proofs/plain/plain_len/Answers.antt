use Rattle.std.proofs.Common.{◌≡◌, ◌∙◌, sym, arith, get_or, false}
use Rattle.ddf_name.specs.Names.{is_plain, plain_len}
use Rattle.ddf_name.proofs.Front.{plain_ascii, plain_none, plain_end}
use Rattle.ddf_name.proofs.plain.plain_len.Goals as goal

pub returns-else-is_plain-clause-ascii : goal.returns-else-is_plain-clause-ascii
returns-else-is_plain-clause-ascii c =
    let other : is_plain (get_or c.args.name.now c.loop-count.count 0) ≡ false = sym c.is_plain.ensures ∙ c.if-is_plain.false in
    let count : plain_len c.args.name.now ≡ c.loop-count.count = omega (arith, c.loop-count.invariant.so_far, plain_none c.args.name.now c.loop-count.count c.loop-count-test.true other) in
    rw count at (plain_ascii c.args.name.now)

pub returns-after-loop-count-clause-ascii : goal.returns-after-loop-count-clause-ascii
returns-after-loop-count-clause-ascii c =
    let count : plain_len c.args.name.now ≡ c.loop-count.count = omega (arith, c.loop-count.invariant.so_far, plain_end c.args.name.now c.loop-count.count c.loop-count-test.false) in
    rw count at (plain_ascii c.args.name.now)
