use Rattle.std.proofs.Common.{◌≡◌, filter_map}
use Rattle.std.specs.Cmp.Lexicographic.{pointwise}
use Rattle.ddf_view.specs.View.{array_of}
use Rattle.ddf_view.specs.Shows.{gives_array}
use Rattle.ddf_view.proofs.showing.give_arrays.Given as goal

abbrev pub invariant-loop-guid : goal.invariant-loop-guid
invariant-loop-guid l = pointwise gives_array (filter_map array_of l.left) l.guid-iterator ≡ pointwise gives_array (filter_map array_of l.rows) l.arrays.entries
