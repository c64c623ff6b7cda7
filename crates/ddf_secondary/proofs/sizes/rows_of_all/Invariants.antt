use Rattle.std.proofs.Common.{◌≡◌, take}
use Rattle.std.specs.List.{sum_by}
use Rattle.ddf_secondary.proofs.sizes.rows_of_all.Given as goal

abbrev pub invariant-loop-size : goal.invariant-loop-size
invariant-loop-size l = l.rows ≡ sum_by (λ size. size.rows) (take l.size-index l.sizes)
