use Rattle.std.proofs.Common.{◌≡◌, ◌++◌, take}
use Rattle.ddf_joining.specs.Telling.{slots_told}
use Rattle.ddf_joining.proofs.told.put_records.Given as goal

abbrev pub invariant-loop-disk : goal.invariant-loop-disk
invariant-loop-disk l = l.into.items ≡ l.initial.into.items ++ slots_told l.config (take l.disk-index l.disks)
