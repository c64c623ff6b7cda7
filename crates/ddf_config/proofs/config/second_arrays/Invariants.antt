use Rattle.std.proofs.Common.{◌≡◌, ◌++◌}
use Rattle.ddf_config.proofs.config.second_arrays.Given as goal

abbrev pub invariant-loop-guid : goal.invariant-loop-guid
invariant-loop-guid l = l.second.entries ++ l.guid-iterator ≡ l.arrays.entries
