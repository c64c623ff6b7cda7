use Rattle.std.proofs.Common.{◌≡◌, ℕ, ◌<◌, []}
use Rattle.std.specs.Prelude.{slice_index_or}
use Rattle.ddf_parity.specs.Xor.{zeros}
use Rattle.ddf_read.proofs.parity.clear.Given as goal

abbrev pub invariant-loop-at : goal.invariant-loop-at
invariant-loop-at l = (k : ℕ) → k < l.at → slice_index_or l.into k [] ≡ zeros
