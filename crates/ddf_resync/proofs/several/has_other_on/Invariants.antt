use Rattle.ddf_resync.specs.Copying.{AreThisOn}
use Rattle.ddf_resync.proofs.several.has_other_on.Given as goal

abbrev pub invariant-loop-position : goal.invariant-loop-position
invariant-loop-position l = AreThisOn l.view l.element l.position l.block l.first
