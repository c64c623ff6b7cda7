use Rattle.std.proofs.Common.{◌≡◌, take}
use Rattle.ddf_rewrite.specs.Before.{before}
use Rattle.ddf_steps.specs.Full.{least_full}
use Rattle.ddf_steps.proofs.full.least_full.Given as goal

abbrev pub invariant-loop-disk : goal.invariant-loop-disk
invariant-loop-disk l = l.least ≡ least_full (before l.leaders) l.config l.timestamp (take l.disk-index l.disks)
