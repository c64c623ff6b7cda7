use Rattle.std.proofs.Common.{◌≡◌, drop}
use Rattle.ddf_view.specs.View.{first_spare}
use Rattle.ddf_view.proofs.slots.first_spare.Given as goal

abbrev pub invariant-loop-slot : goal.invariant-loop-slot
invariant-loop-slot l = first_spare (drop l.slot-index l.slots) ≡ first_spare l.slots
