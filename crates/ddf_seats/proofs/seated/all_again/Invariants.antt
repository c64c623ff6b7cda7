use Rattle.std.proofs.Common.{◌≡◌, take}
use Rattle.ddf_seats.proofs.seated.all_again.Given as goal

abbrev pub invariant-loop-disk : goal.invariant-loop-disk
invariant-loop-disk l = l.all.items ≡ take l.disk-index l.disks
