use Rattle.std.proofs.Common.{◌≡◌, ◌++◌, drop, map, filter_map}
use Rattle.ddf_view.specs.View.{array_of}
use Rattle.ddf_view.specs.Reading.{array_entry_in}
use Rattle.ddf_view.proofs.reading.arrays_in.Given as goal

abbrev pub invariant-loop-row : goal.invariant-loop-row
invariant-loop-row l =
    l.arrays.entries ++ map (array_entry_in l.views) (filter_map array_of (drop l.row-index l.rows)) ≡ map (array_entry_in l.views) (filter_map array_of l.rows)
