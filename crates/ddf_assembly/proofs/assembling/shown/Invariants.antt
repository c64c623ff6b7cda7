use Rattle.std.proofs.Common.{◌≡◌, ◌++◌, drop, map}
use Rattle.ddf_group.specs.Shown.{shown_of}
use Rattle.ddf_assembly.proofs.assembling.shown.Given as goal

abbrev pub invariant-loop-one : goal.invariant-loop-one
invariant-loop-one l = l.all.items ++ map shown_of (drop l.one-index l.newest) ≡ map shown_of l.newest
