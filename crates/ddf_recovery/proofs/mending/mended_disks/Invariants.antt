use Rattle.std.proofs.Common.{◌≡◌, map, filter, take}
use Rattle.ddf_rewrite.specs.Before.{before}
use Rattle.ddf_seats.specs.Leading.{lags}
use Rattle.ddf_recovery.specs.Recovery.{mended}
use Rattle.ddf_recovery.proofs.mending.mended_disks.Given as goal

abbrev pub invariant-loop-disk : goal.invariant-loop-disk
invariant-loop-disk l = l.after.items ≡ map (mended (before l.leaders) l.config l.timestamp) (filter (lags l.group) (take l.disk-index l.disks))
