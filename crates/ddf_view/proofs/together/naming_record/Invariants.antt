use Rattle.std.proofs.Common.{◌≡◌, ◌-◌, map}
use Rattle.std.specs.List.{range_with_len}
use Rattle.ddf_bytes.specs.Choices.{first_of}
use Rattle.ddf_view.specs.View.{find_held}
use Rattle.ddf_view.specs.Reading.{elements_in}
use Rattle.ddf_view.proofs.together.naming_record.Given as goal

abbrev pub invariant-loop-index : goal.invariant-loop-index
invariant-loop-index l =
    first_of (map (λ index. find_held l.array index (elements_in l.views)) (range_with_len l.index (16 - l.index)))
    ≡ first_of (map (λ index. find_held l.array index (elements_in l.views)) (range_with_len 0 16))
