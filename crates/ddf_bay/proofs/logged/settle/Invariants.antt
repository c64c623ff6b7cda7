use Rattle.std.proofs.Common.{◌≡◌, ◌++◌, take, drop}
use Rattle.ddf_bay.specs.Logged.{settled}
use Rattle.ddf_bay.proofs.logged.settle.Given as goal

abbrev pub invariant-loop-write : goal.invariant-loop-write
invariant-loop-write l = l.logged ≡ settled l.slot l.now (take l.write-index l.initial.logged) ++ drop l.write-index l.initial.logged
