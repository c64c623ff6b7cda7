use Rattle.std.proofs.Common.{◌≡◌, drop, length}
use Rattle.ddf_repair.specs.First.{out_from}
use Rattle.ddf_repair.proofs.first.out_among.Given as goal

abbrev pub invariant-loop-element : goal.invariant-loop-element
invariant-loop-element l = out_from (length l.parts) l.element (drop l.element l.parts) ≡ out_from (length l.parts) 0 l.parts
