use Rattle.std.proofs.Common.{◌≡◌, ◌++◌, filter, take}
use Rattle.ddf_plan.specs.Same.{same_flag}
use Rattle.ddf_joining.specs.Joining.{is_behind}
use Rattle.ddf_joining.proofs.joining.put_side.Given as goal

abbrev pub invariant-loop-other : goal.invariant-loop-other
invariant-loop-other l = l.into.items ≡ l.initial.into.items ++ filter (λ one. same_flag l.behind (is_behind l.disk one)) (take l.other-index l.disks)
