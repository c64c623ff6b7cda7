use Rattle.std.proofs.Common.{◌≡◌, take, min}
use Rattle.std.specs.List.{sum_by}
use Rattle.ddf_secondary.proofs.spanned.units_before.Given as goal

abbrev pub invariant-loop-size : goal.invariant-loop-size
invariant-loop-size l = l.units ≡ sum_by (λ size. min size.rows l.row) (take l.size-index l.sizes)
