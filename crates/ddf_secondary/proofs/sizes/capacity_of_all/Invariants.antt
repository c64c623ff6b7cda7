use Rattle.std.proofs.Common.{◌≡◌, take}
use Rattle.std.specs.List.{sum_by}
use Rattle.ddf_secondary.proofs.sizes.capacity_of_all.Given as goal

abbrev pub invariant-loop-size : goal.invariant-loop-size
invariant-loop-size l = l.capacity ≡ sum_by (λ size. size.capacity) (take l.size-index l.sizes)
