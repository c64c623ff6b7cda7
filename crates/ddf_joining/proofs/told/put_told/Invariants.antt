use Rattle.std.proofs.Common.{◌≡◌, ◌++◌, filter, take}
use Rattle.ddf_joining.specs.Telling.{is_told}
use Rattle.ddf_joining.proofs.told.put_told.Given as goal

abbrev pub invariant-loop-slot : goal.invariant-loop-slot
invariant-loop-slot l = l.into.items ≡ l.initial.into.items ++ filter (is_told l.config) (take l.slot-index l.slots)
