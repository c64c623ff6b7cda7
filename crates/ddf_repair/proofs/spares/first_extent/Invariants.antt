use Rattle.std.proofs.Common.{◌≡◌, length}
use Rattle.ddf_repair.specs.Spares.{first_extent}
use Rattle.ddf_repair.proofs.spares.first_extent.Given as goal

abbrev pub invariant-loop-reference : goal.invariant-loop-reference
invariant-loop-reference l =
    first_extent l.members.entries l.all l.seats l.strip l.blocks l.rest ≡ first_extent l.members.entries l.all l.seats l.strip l.blocks l.references

abbrev pub decreases-loop-reference : goal.decreases-loop-reference
decreases-loop-reference l = length l.rest
