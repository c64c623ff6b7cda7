use Rattle.std.proofs.Common.{◌≡◌, ◌++◌, ◌-◌}
use Rattle.std.specs.List.{flat_map, range_with_len}
use Rattle.ddf_view.specs.View.{find_held}
use Rattle.ddf_view.specs.Reading.{elements_in}
use Rattle.ddf_view.specs.Spares.{held_spares}
use Rattle.ddf_view.proofs.spare_reading.push_elements.Given as goal

abbrev pub invariant-loop-index : goal.invariant-loop-index
invariant-loop-index l =
    l.all.items ++ flat_map (λ index. held_spares (find_held l.array index (elements_in l.views))) (range_with_len l.index (l.count - l.index))
    ≡ l.fn.all.items ++ flat_map (λ index. held_spares (find_held l.array index (elements_in l.views))) (range_with_len 0 l.count)
