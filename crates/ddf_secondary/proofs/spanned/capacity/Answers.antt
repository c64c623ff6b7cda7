use Rattle.std.proofs.Common.{arith}
use Rattle.ddf_secondary.proofs.SpannedSpots.{rows_fit, rows_are_small, spanned_length}
use Rattle.ddf_secondary.proofs.spanned.capacity.Goals as goal

pub rows_of_all-requires : goal.rows_of_all-requires
rows_of_all-requires c = omega (arith, rows_fit c.args.sizes.now c.requires)

pub overflow_mul-result : goal.overflow_mul-result
overflow_mul-result c =
    rw (c.unit_of.ensures, c.rows_of_all.ensures) (omega (arith, rows_are_small c.args.sizes.now c.requires))

pub returns : goal.returns
returns c =
    rw (c.unit_of.ensures, c.rows_of_all.ensures) (omega (arith, spanned_length c.args.sizes.now))
