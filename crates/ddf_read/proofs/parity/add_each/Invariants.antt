use Rattle.std.proofs.Common.{◌≡◌, ℕ, ◌<◌, ◌≤◌, []}
use Rattle.std.specs.Prelude.{slice_index_or}
use Rattle.ddf_parity.specs.Xor.{xor}
use Rattle.ddf_read.proofs.parity.add_each.Given as goal

abbrev pub invariant-loop-at : goal.invariant-loop-at
invariant-loop-at l = record {
  done : (k : ℕ) → k < l.at → slice_index_or l.into k [] ≡ xor (slice_index_or l.fn.into k []) (slice_index_or l.from k []);
  ahead : (k : ℕ) → l.at ≤ k → slice_index_or l.into k [] ≡ slice_index_or l.fn.into k [];
}
