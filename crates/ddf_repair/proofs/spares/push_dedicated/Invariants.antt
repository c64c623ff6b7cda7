use Rattle.std.proofs.Common.{◌≡◌, ◌++◌}
use Rattle.ddf_repair.specs.Spares.{is_dedicated_to, spares_of}
use Rattle.ddf_repair.proofs.spares.push_dedicated.Given as goal

abbrev pub invariant-loop-reference : goal.invariant-loop-reference
invariant-loop-reference l =
    l.spares.items ++ spares_of (is_dedicated_to l.guid) l.members.entries l.seats l.used l.reference-iterator
    ≡ l.fn.spares.items ++ spares_of (is_dedicated_to l.guid) l.members.entries l.seats l.used l.members.entries
