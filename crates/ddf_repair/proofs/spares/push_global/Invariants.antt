use Rattle.std.proofs.Common.{◌≡◌, ◌++◌}
use Rattle.ddf_repair.specs.Spares.{is_global, spares_of}
use Rattle.ddf_repair.proofs.spares.push_global.Given as goal

abbrev pub invariant-loop-reference : goal.invariant-loop-reference
invariant-loop-reference l =
    l.spares.items ++ spares_of is_global l.members.entries l.seats l.used l.reference-iterator ≡ l.fn.spares.items ++ spares_of is_global l.members.entries l.seats l.used l.members.entries
