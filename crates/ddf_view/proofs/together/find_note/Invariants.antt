use Rattle.std.proofs.Common.{◌≡◌, drop}
use Rattle.ddf_view.specs.View.{find_note}
use Rattle.ddf_view.specs.Reading.{elements_in}
use Rattle.ddf_view.proofs.together.find_note.Given as goal

abbrev pub invariant-loop-view : goal.invariant-loop-view
invariant-loop-view l = find_note l.array l.index (elements_in (drop l.view-index l.views)) ≡ find_note l.array l.index (elements_in l.views)
