use Rattle.std.proofs.Common.{◌≡◌, ◌++◌}
use Rattle.ddf_import.proofs.joining.copied.Given as goal

abbrev pub invariant-loop-guid : goal.invariant-loop-guid
invariant-loop-guid l = l.copy.entries ++ l.guid-iterator ≡ l.arrays.entries
