use Rattle.std.proofs.Common.{arith}
use Rattle.ddf_primary.proofs.Divide.{block_lt, small_block}
use Rattle.ddf_primary.proofs.strip.block_of_strip.Goals as goal

pub overflow_mul-result-2 : goal.overflow_mul-result-2
overflow_mul-result-2 c =
    rw (c.from.ensures, c.from-2.ensures)
    (omega (arith, block_lt c.args.number c.args.sector c.args.strip c.args.columns (omega arith) (omega arith), small_block c.args.columns c.args.sector c.args.strip (omega arith) (omega arith) (omega arith)))

pub overflow_add-result-2 : goal.overflow_add-result-2
overflow_add-result-2 c =
    rw (c.from.ensures, c.from-2.ensures)
    (omega (arith, block_lt c.args.number c.args.sector c.args.strip c.args.columns (omega arith) (omega arith), small_block c.args.columns c.args.sector c.args.strip (omega arith) (omega arith) (omega arith)))
