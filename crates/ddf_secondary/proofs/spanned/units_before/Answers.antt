use Rattle.std.proofs.Common.{arith, min}
use Rattle.std.proofs.lemmas.List.Sums.{sum_by_more_le}
use Rattle.ddf_secondary.specs.declared.element.ElementSize.{ElementSize}
use Rattle.ddf_secondary.proofs.Longer.{before_le}
use Rattle.ddf_secondary.proofs.spanned.units_before.Goals as goal

pub overflow_add-units : goal.overflow_add-units
overflow_add-units c =
    let more = sum_by_more_le (λ (size : ElementSize). min size.rows c.args.row) c.args.sizes.now c.loop-size.size-index (record { capacity = 0; unit = 0; rows = 0 }) (omega arith) in
    omega (arith, more, before_le c.args.row c.args.sizes.now, c.loop-size.invariant, c.min-units.ensures)
