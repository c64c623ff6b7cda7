use Rattle.std.proofs.Common.{◌≡◌, take}
use Rattle.ddf_config.specs.Extents.{extents_on, ranges}
use Rattle.ddf_config.proofs.extent.ranges_on.Given as goal

abbrev pub invariant-loop-extent : goal.invariant-loop-extent
invariant-loop-extent l = l.taken.items ≡ ranges (extents_on l.reference (take l.extent-index l.all))
