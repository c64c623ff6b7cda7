use Rattle.std.proofs.Common.{◌≡◌, take}
use Rattle.ddf_seats.specs.Seated.{seats_in}
use Rattle.ddf_steps.proofs.steps.seats_of.Given as goal

abbrev pub invariant-loop-disk : goal.invariant-loop-disk
invariant-loop-disk l = l.seats.items ≡ seats_in (take l.disk-index l.disks)
