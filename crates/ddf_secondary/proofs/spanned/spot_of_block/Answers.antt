use Rattle.std.proofs.Common.{arith}
use Rattle.ddf_secondary.proofs.SpannedSpots.{rows_fit, spanned_unit, spanned_spot, spanned_spot_small}
use Rattle.ddf_secondary.proofs.spanned.spot_of_block.Goals as goal

pub unit_place-place-requires-clause-within : goal.unit_place-place-requires-clause-within
unit_place-place-requires-clause-within c =
    rw c.unit_of-unit.ensures (spanned_unit c.args.sizes.now c.args.block c.requires.within)

pub unit_place-place-requires-clause-small : goal.unit_place-place-requires-clause-small
unit_place-place-requires-clause-small c = omega (arith, rows_fit c.args.sizes.now c.requires.array)

pub overflow_mul-result : goal.overflow_mul-result
overflow_mul-result c =
    let found = c.unit_place-place.ensures in
    rw c.unit_of-unit.ensures
    (omega (arith, spanned_spot_small c.args.sizes.now c.args.block c.unit_place-place.result.row found.0 c.unit_place-place.result.element c.requires.array found.1))

pub overflow_add-result : goal.overflow_add-result
overflow_add-result c =
    let found = c.unit_place-place.ensures in
    rw c.unit_of-unit.ensures
    (omega (arith, spanned_spot_small c.args.sizes.now c.args.block c.unit_place-place.result.row found.0 c.unit_place-place.result.element c.requires.array found.1))

pub returns : goal.returns
returns c =
    let found = c.unit_place-place.ensures in
    rw c.unit_of-unit.ensures
    (spanned_spot c.args.sizes.now c.args.block c.unit_place-place.result.row found.0 c.unit_place-place.result.element c.requires.within found.1 (rw c.unit_of-unit.ensures at found.2))
