use Rattle.std.proofs.Common.{◌≡◌, ◌++◌, take, drop}
use Rattle.ddf_bay.specs.Logged.{marked}
use Rattle.ddf_bay.proofs.logged.mark.Given as goal

abbrev pub invariant-loop-write : goal.invariant-loop-write
invariant-loop-write l = take l.write-index l.logged ++ marked l.now l.rest (drop l.write-index l.logged) ≡ marked l.now l.keep l.initial.logged
