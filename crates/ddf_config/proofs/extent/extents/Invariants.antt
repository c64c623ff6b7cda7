use Rattle.std.proofs.Common.{◌≡◌, ◌++◌}
use Rattle.ddf_config.specs.Extents.{extents}
use Rattle.ddf_config.proofs.extent.extents.Given as goal

abbrev pub invariant-loop-guid : goal.invariant-loop-guid
invariant-loop-guid l = l.all.items ++ extents l._guid-iterator ≡ extents l.arrays.entries
