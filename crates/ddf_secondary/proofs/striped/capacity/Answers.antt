use Rattle.std.proofs.Common.{arith}
use Rattle.ddf_secondary.proofs.ArrayFacts.{striped_share, least_small}
use Rattle.ddf_secondary.proofs.StripedSpots.{striped_length, striped_small}
use Rattle.ddf_secondary.proofs.striped.capacity.Goals as goal

pub overflow_mul-result : goal.overflow_mul-result
overflow_mul-result c =
    let array = c.requires in
    rw (c.least_rows.ensures, c.unit_of.ensures)
    (omega (arith, least_small c.args.sizes.now array.some (striped_share c.args.sizes.now array) array.small))

pub overflow_mul-result-2 : goal.overflow_mul-result-2
overflow_mul-result-2 c =
    rw (c.least_rows.ensures, c.unit_of.ensures)
    (omega (arith, striped_length c.args.sizes.now, striped_small c.args.sizes.now c.requires))

pub returns : goal.returns
returns c =
    rw (c.least_rows.ensures, c.unit_of.ensures) (omega (arith, striped_length c.args.sizes.now))
