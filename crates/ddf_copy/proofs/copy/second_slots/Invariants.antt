use Rattle.std.proofs.Common.{◌≡◌, take}
use Rattle.ddf_copy.proofs.copy.second_slots.Given as goal

abbrev pub invariant-loop-slot : goal.invariant-loop-slot
invariant-loop-slot l = l.second.items ≡ take l.slot-index l.slots
