use Rattle.std.proofs.Common.{◌≡◌, ◌+◌, min}
use Rattle.std.specs.List.{sum_by}
use Rattle.ddf_secondary.proofs.spanned.unit_place.Given as goal

abbrev pub invariant-bands : goal.invariant-bands
invariant-bands l = sum_by (λ size. min size.rows l.row) l.sizes + l.left ≡ l.unit

abbrev pub decreases-bands : goal.decreases-bands
decreases-bands l = l.left
