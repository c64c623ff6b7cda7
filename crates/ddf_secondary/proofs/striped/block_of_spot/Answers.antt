use Rattle.std.proofs.Common.{arith}
use Rattle.ddf_secondary.proofs.StripedSpots.{striped_block, striped_block_lt, striped_unit_lt}
use Rattle.ddf_secondary.proofs.striped.block_of_spot.Goals as goal

pub overflow_mul-result : goal.overflow_mul-result
overflow_mul-result c =
    rw c.unit_of-unit.ensures
    (omega (arith, striped_unit_lt c.args.sizes.now c.args.spot c.requires.array c.requires.element c.requires.within))

pub overflow_add-result : goal.overflow_add-result
overflow_add-result c =
    rw (c.unit_of-unit.ensures, c.from.ensures)
    (omega (arith, striped_unit_lt c.args.sizes.now c.args.spot c.requires.array c.requires.element c.requires.within))

pub overflow_mul-result-2 : goal.overflow_mul-result-2
overflow_mul-result-2 c =
    rw (c.unit_of-unit.ensures, c.from.ensures)
    (omega (arith, striped_block_lt c.args.sizes.now c.args.spot c.requires.array c.requires.element c.requires.within))

pub overflow_add-result-2 : goal.overflow_add-result-2
overflow_add-result-2 c =
    rw (c.unit_of-unit.ensures, c.from.ensures)
    (omega (arith, striped_block_lt c.args.sizes.now c.args.spot c.requires.array c.requires.element c.requires.within))

pub returns : goal.returns
returns c = λ block.
    rw (c.unit_of-unit.ensures, c.from.ensures)
    (striped_block c.args.sizes.now c.args.spot block c.requires.array c.requires.element c.requires.within)
