use Rattle.std.proofs.Common.{◌≡◌, drop}
use Rattle.ddf_view.specs.View.{find_held}
use Rattle.ddf_view.specs.Reading.{elements_in}
use Rattle.ddf_view.proofs.together.find_held.Given as goal

abbrev pub invariant-loop-view : goal.invariant-loop-view
invariant-loop-view l = find_held l.array l.index (elements_in (drop l.view-index l.views)) ≡ find_held l.array l.index (elements_in l.views)
