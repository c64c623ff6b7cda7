use Rattle.std.proofs.Common.{◌≡◌, ◌++◌, drop, map}
use Rattle.ddf_rewrite.specs.Disks.{filled}
use Rattle.ddf_rewrite.proofs.disks.disks_for.Given as goal

abbrev pub invariant-loop-disk : goal.invariant-loop-disk
invariant-loop-disk l = l.entries.items ++ map (filled l.revision l.noted l.all) (drop l.disk-index l.disks) ≡ map (filled l.revision l.noted l.all) l.disks
