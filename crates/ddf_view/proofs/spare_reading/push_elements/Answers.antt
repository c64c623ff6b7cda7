use Rattle.std.proofs.Common.{ℕ, List, ◌++◌}
use Rattle.std.specs.List.{flat_map, range_with_len}
use Rattle.ddf_view.specs.View.{find_held}
use Rattle.ddf_view.specs.Reading.{elements_in}
use Rattle.ddf_view.specs.Spares.{held_spares}
use Rattle.ddf_view.proofs.Rebuilt.{made_flat}
use Rattle.ddf_view.proofs.spare_reading.push_elements.Goals as goal

pub loop-index-preserved : goal.loop-index-preserved
loop-index-preserved c =
    let spares : ℕ → List ℕ = λ index. held_spares (find_held c.args.array.now index (elements_in c.args.views.now)) in
    rw c.in_ok-push_held.ensures
    (made_flat spares c.loop-index.all.items (c.args.all.now.items ++ flat_map spares (range_with_len 0 c.args.count)) c.loop-index.index c.args.count c.loop-index-test.true c.loop-index.invariant)
