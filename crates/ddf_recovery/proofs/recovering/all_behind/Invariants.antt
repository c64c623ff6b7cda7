use Rattle.std.proofs.Common.{◌≡◌, map, take}
use Rattle.ddf_recovery.specs.Behind.{behind_written}
use Rattle.ddf_recovery.proofs.recovering.all_behind.Given as goal

abbrev pub invariant-loop-disk : goal.invariant-loop-disk
invariant-loop-disk l = l.behind.items ≡ map (behind_written l.written) (take l.disk-index l.disks)
