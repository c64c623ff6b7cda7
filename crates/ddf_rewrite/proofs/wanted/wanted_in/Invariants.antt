use Rattle.std.proofs.Common.{◌≡◌, ◌++◌}
use Rattle.std.specs.List.{flat_map}
use Rattle.ddf_rewrite.specs.Wanted.{wanted_of}
use Rattle.ddf_rewrite.proofs.wanted.wanted_in.Given as goal

abbrev pub invariant-loop-guid : goal.invariant-loop-guid
invariant-loop-guid l = l.all.items ++ flat_map wanted_of l.guid-iterator ≡ flat_map wanted_of l.arrays.entries
