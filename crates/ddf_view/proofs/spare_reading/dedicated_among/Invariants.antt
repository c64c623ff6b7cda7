use Rattle.std.proofs.Common.{◌≡◌, take}
use Rattle.std.specs.List.{flat_map}
use Rattle.ddf_view.specs.Spares.{dedicated_by}
use Rattle.ddf_view.proofs.spare_reading.dedicated_among.Given as goal

abbrev pub invariant-loop-spares : goal.invariant-loop-spares
invariant-loop-spares l = l.arrays.items ≡ flat_map (dedicated_by l.reference) (take l.spares-index l.all)
