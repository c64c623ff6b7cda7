use Rattle.std.proofs.Common.{◌≡◌, drop, fold}
use Rattle.ddf_rewrite.specs.Elements.{add_spare}
use Rattle.ddf_rewrite.proofs.associated.spares_after.Given as goal

abbrev pub invariant-loop-reference : goal.invariant-loop-reference
invariant-loop-reference l = fold add_spare l.after (drop l.reference-index l.dedicated) ≡ fold add_spare l.initial.after l.dedicated
