use Rattle.std.proofs.Common.{◌≡◌, take}
use Rattle.ddf_steps.specs.Refusing.{most_members}
use Rattle.ddf_steps.proofs.trying.most_members.Given as goal

abbrev pub invariant-loop-disk : goal.invariant-loop-disk
invariant-loop-disk l = l.most ≡ most_members (take l.disk-index l.disks)
