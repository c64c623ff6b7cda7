use Rattle.std.proofs.Common.{◌≡◌, ◌++◌, map, filter_map}
use Rattle.ddf_view.specs.View.{array_of}
use Rattle.ddf_rewrite.specs.Arrays.{array_on}
use Rattle.ddf_rewrite.proofs.arrays.entries_of.Given as goal

abbrev pub invariant-loop-guid : goal.invariant-loop-guid
invariant-loop-guid l = l.entries.items ++ map (array_on (filter_map array_of l.own)) l.guid-iterator ≡ map (array_on (filter_map array_of l.own)) l.arrays.entries
