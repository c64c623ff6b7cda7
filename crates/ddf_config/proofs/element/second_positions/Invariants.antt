use Rattle.std.proofs.Common.{◌≡◌, take}
use Rattle.ddf_config.proofs.element.second_positions.Given as goal

abbrev pub invariant-loop-position : goal.invariant-loop-position
invariant-loop-position l = l.second.items ≡ take l.position-index l.positions
