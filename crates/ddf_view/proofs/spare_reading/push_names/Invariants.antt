use Rattle.std.proofs.Common.{◌≡◌, ◌++◌, take}
use Rattle.std.specs.List.{flat_map}
use Rattle.ddf_view.specs.Spares.{named_by}
use Rattle.ddf_view.proofs.spare_reading.push_names.Given as goal

abbrev pub invariant-loop-view : goal.invariant-loop-view
invariant-loop-view l = l.all.items ≡ l.fn.all.items ++ flat_map (named_by l.array) (take l.view-index l.views)
