use Rattle.std.proofs.Common.{◌≡◌, take}
use Rattle.ddf_repair.specs.Spares.{most_of}
use Rattle.ddf_repair.proofs.spares.most_of.Given as goal

abbrev pub invariant-loop-reference : goal.invariant-loop-reference
invariant-loop-reference l = l.most ≡ most_of l.members.entries l.all l.seats l.strip (take l.reference-index l.references)
