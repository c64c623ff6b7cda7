use Rattle.std.proofs.Common.{◌≡◌, ◌++◌, map, take}
use Rattle.ddf_config.specs.Extents.{extent}
use Rattle.ddf_config.proofs.extent.push_extents.Given as goal

abbrev pub invariant-loop-position : goal.invariant-loop-position
invariant-loop-position l = l.all.items ≡ l.fn.all.items ++ map (extent l.blocks) (take l.position-index l.positions)
