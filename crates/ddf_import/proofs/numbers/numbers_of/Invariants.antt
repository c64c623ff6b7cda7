use Rattle.std.proofs.Common.{◌≡◌, ◌++◌}
use Rattle.ddf_import.specs.Joined.{numbers_of}
use Rattle.ddf_import.proofs.numbers.numbers_of.Given as goal

abbrev pub invariant-loop-guid : goal.invariant-loop-guid
invariant-loop-guid l = l.numbers.items ++ numbers_of l._guid-iterator ≡ numbers_of l.arrays.entries
