use Rattle.std.proofs.Common.{◌≡◌, ◌++◌, filter, take}
use Rattle.ddf_plan.specs.Same.{same_flag}
use Rattle.ddf_seats.specs.Seated.{slots_in, is_adopted}
use Rattle.ddf_steps.proofs.steps.put_slots.Given as goal

abbrev pub invariant-loop-disk : goal.invariant-loop-disk
invariant-loop-disk l = l.slots.items ≡ l.initial.slots.items ++ slots_in (filter (λ disk. same_flag l.adopted (is_adopted disk)) (take l.disk-index l.disks))
