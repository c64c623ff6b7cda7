use Rattle.std.proofs.Common.{◌≡◌, filter, take}
use Rattle.ddf_seats.specs.Leading.{leads}
use Rattle.ddf_steps.proofs.leading.leading_disks.Given as goal

abbrev pub invariant-loop-disk : goal.invariant-loop-disk
invariant-loop-disk l = l.leaders.items ≡ filter (leads l.config) (take l.disk-index l.disks)
