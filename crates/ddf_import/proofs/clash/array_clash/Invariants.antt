use Rattle.std.proofs.Common.{◌≡◌, find}
use Rattle.ddf_import.specs.Clash.{has_array}
use Rattle.ddf_import.proofs.clash.array_clash.Given as goal

abbrev pub invariant-loop-guid : goal.invariant-loop-guid
invariant-loop-guid l = find (has_array l.arrays.entries) l.guid-iterator ≡ find (has_array l.arrays.entries) l.joining.entries
