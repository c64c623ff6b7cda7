use Rattle.std.proofs.Common.{◌≡◌, drop}
use Rattle.ddf_badblocks.specs.Unfit.{first_wrong}
use Rattle.ddf_badblocks.proofs.unfit.first_wrong.Given as goal

abbrev pub invariant-loop-place : goal.invariant-loop-place
invariant-loop-place l = first_wrong l.size l.log.spare_count l.kept l.place (drop l.place l.log.entries) ≡ first_wrong l.size l.log.spare_count l.kept 0 l.log.entries
