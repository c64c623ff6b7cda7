use Rattle.std.proofs.Common.{◌≡◌, ◌++◌, drop, map, filter_map}
use Rattle.ddf_view.specs.View.{array_of}
use Rattle.ddf_view.specs.Spares.{spares_of}
use Rattle.ddf_view.proofs.spare_reading.spares_in.Given as goal

abbrev pub invariant-loop-row : goal.invariant-loop-row
invariant-loop-row l =
    l.all.items ++ map (spares_of l.views) (filter_map array_of (drop l.row-index l.rows)) ≡ map (spares_of l.views) (filter_map array_of l.rows)
