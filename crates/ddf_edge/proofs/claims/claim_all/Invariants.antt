use Rattle.std.proofs.Common.{◌≡◌, length}
use Rattle.ddf_edge.proofs.claims.claim_all.Given as goal

abbrev pub invariant-loop-slot : goal.invariant-loop-slot
invariant-loop-slot g l = length l.bay.sizes.items ≡ length l.paths
