use Rattle.std.proofs.Common.{◌≡◌, None, filter, fold, take}
use Rattle.ddf_rewrite.specs.Before.{before}
use Rattle.ddf_steps.specs.Full.{lesser}
use Rattle.ddf_recovery.specs.Recovery.{full_mended}
use Rattle.ddf_seats.specs.Leading.{lags}
use Rattle.ddf_recovery.proofs.mending.least_mended.Given as goal

abbrev pub invariant-loop-disk : goal.invariant-loop-disk
invariant-loop-disk l =
    l.least ≡ fold (λ one disk. lesser one (full_mended (before l.leaders) l.config disk)) None (filter (lags l.group) (take l.disk-index l.disks))
