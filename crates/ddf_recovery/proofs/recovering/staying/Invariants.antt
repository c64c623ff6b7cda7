use Rattle.std.proofs.Common.{◌≡◌, filter, take}
use Rattle.ddf_steps.specs.Steps.{stays_in}
use Rattle.ddf_recovery.proofs.recovering.staying.Given as goal

abbrev pub invariant-loop-disk : goal.invariant-loop-disk
invariant-loop-disk l = l.kept.items ≡ filter (stays_in l.config) (take l.disk-index l.disks)
