use Rattle.std.proofs.Common.{◌≡◌, length}
use Rattle.ddf_import.specs.Clash.{first_bound}
use Rattle.ddf_import.proofs.clash.first_bound.Given as goal

abbrev pub invariant-loop-one : goal.invariant-loop-one
invariant-loop-one l = first_bound l.own.entries l.others.entries l.rest ≡ first_bound l.own.entries l.others.entries l.all

abbrev pub decreases-loop-one : goal.decreases-loop-one
decreases-loop-one l = length l.rest
