use Rattle.std.proofs.Common.{◌≡◌, drop}
use Rattle.ddf_repair.specs.Choose.{back_from}
use Rattle.ddf_repair.proofs.choosing.back_among.Given as goal

abbrev pub invariant-loop-element : goal.invariant-loop-element
invariant-loop-element l = back_from l.seats l.element (drop l.element l.parts) ≡ back_from l.seats 0 l.parts
