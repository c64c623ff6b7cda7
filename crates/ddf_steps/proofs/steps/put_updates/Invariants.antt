use Rattle.std.proofs.Common.{◌++◌, List, filter, take}
use Rattle.ddf_plan.specs.Same.{same_flag}
use Rattle.ddf_seats.specs.declared.seated.Seated.{Seated}
use Rattle.ddf_seats.specs.Seated.{is_adopted}
use Rattle.ddf_steps.specs.Trying.{ArePrepared}
use Rattle.ddf_steps.proofs.steps.put_updates.Given as goal

abbrev pub invariant-loop-disk : goal.invariant-loop-disk
invariant-loop-disk l = (before : List Seated) → ArePrepared before l.initial.updates.items
    → ArePrepared (before ++ filter (λ disk. same_flag l.adopted (is_adopted disk)) (take l.disk-index l.disks)) l.updates.items
