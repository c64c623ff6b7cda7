use Rattle.std.proofs.Common.{◌≡◌, ◌++◌, ◌-◌, map}
use Rattle.std.specs.List.{range_with_len}
use Rattle.ddf_view.specs.Reading.{element_in, disks_in, elements_in}
use Rattle.ddf_view.proofs.reading.elements_of.Given as goal

abbrev pub invariant-loop-index : goal.invariant-loop-index
invariant-loop-index l =
    l.elements.items ++ map (element_in (disks_in l.views) (elements_in l.views) l.array) (range_with_len l.index (l.count - l.index))
    ≡ map (element_in (disks_in l.views) (elements_in l.views) l.array) (range_with_len 0 l.count)
