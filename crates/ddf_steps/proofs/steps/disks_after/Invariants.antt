use Rattle.std.proofs.Common.{◌≡◌, map, filter, take}
use Rattle.ddf_rewrite.specs.Before.{before}
use Rattle.ddf_steps.specs.Steps.{rewritten, stays_in}
use Rattle.ddf_steps.proofs.steps.disks_after.Given as goal

abbrev pub invariant-loop-disk : goal.invariant-loop-disk
invariant-loop-disk l = l.after.items ≡ map (rewritten (before l.leaders) l.config l.timestamp) (filter (stays_in l.config) (take l.disk-index l.disks))
