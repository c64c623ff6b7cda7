use Rattle.std.proofs.Common.{◌≡◌, fold, take}
use Rattle.ddf_joining.specs.Joining.{placed}
use Rattle.ddf_joining.proofs.joining.both_disks.Given as goal

abbrev pub invariant-loop-disk : goal.invariant-loop-disk
invariant-loop-disk l = l.all.items ≡ fold placed l.native (take l.disk-index l.joining)
