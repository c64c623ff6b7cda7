use Rattle.std.proofs.Common.{◌≡◌, map, take}
use Rattle.ddf_request.specs.NewArray.{new_position}
use Rattle.ddf_request.proofs.new_array.new_positions.Given as goal

abbrev pub invariant-loop-slot : goal.invariant-loop-slot
invariant-loop-slot l = l.positions.items ≡ map (new_position l.seats) (take l.slot-index l.slots)
