use Rattle.std.proofs.Common.{◌≡◌, map, take}
use Rattle.ddf_seats.specs.Seated.{levelled}
use Rattle.ddf_seats.proofs.seated.all_levelled.Given as goal

abbrev pub invariant-loop-disk : goal.invariant-loop-disk
invariant-loop-disk l = l.all.items ≡ map levelled (take l.disk-index l.disks)
