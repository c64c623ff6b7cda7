use Rattle.std.proofs.Common.{◌≡◌, ◌++◌, take}
use Rattle.std.specs.List.{flat_map}
use Rattle.ddf_config.specs.Extents.{part_extents}
use Rattle.ddf_config.proofs.extent.push_parts_extents.Given as goal

abbrev pub invariant-loop-part : goal.invariant-loop-part
invariant-loop-part l = l.all.items ≡ l.fn.all.items ++ flat_map part_extents (take l.part-index l.parts)
