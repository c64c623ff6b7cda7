use Rattle.std.proofs.Common.{arith}
use Rattle.ddf_secondary.proofs.SpannedSpots.{rows_fit, spanned_block, spanned_block_lt, spanned_unit_lt}
use Rattle.ddf_secondary.proofs.spanned.block_of_spot.Goals as goal

pub units_before-requires : goal.units_before-requires
units_before-requires c = omega (arith, rows_fit c.args.sizes.now c.requires.array)

pub overflow_add-result : goal.overflow_add-result
overflow_add-result c =
    rw (c.units_before.ensures, c.longer-ahead.ensures, c.unit_of-unit.ensures)
    (omega (arith, spanned_unit_lt c.args.sizes.now c.args.spot c.requires.array c.requires.element c.requires.within))

pub overflow_mul-result : goal.overflow_mul-result
overflow_mul-result c =
    rw (c.units_before.ensures, c.longer-ahead.ensures, c.unit_of-unit.ensures)
    (omega (arith, spanned_block_lt c.args.sizes.now c.args.spot c.requires.array c.requires.element c.requires.within))

pub overflow_add-result-2 : goal.overflow_add-result-2
overflow_add-result-2 c =
    rw (c.units_before.ensures, c.longer-ahead.ensures, c.unit_of-unit.ensures)
    (omega (arith, spanned_block_lt c.args.sizes.now c.args.spot c.requires.array c.requires.element c.requires.within))

pub returns : goal.returns
returns c = λ block.
    rw (c.units_before.ensures, c.longer-ahead.ensures, c.unit_of-unit.ensures)
    (spanned_block c.args.sizes.now c.args.spot block c.requires.array c.requires.element c.requires.within)
