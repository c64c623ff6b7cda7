use Rattle.std.proofs.Common.{◌≡◌, ◌<◌, ◌^◌, ◌+◌, ℕ, length, get_or}
use Rattle.ddf_seal.specs.Crc.{bit_steps}
use Rattle.ddf_linux.specs.Zeros.{AreImages}
use Rattle.ddf_linux.proofs.zeros.twice.Given as goal

abbrev pub invariant-loop-bit : goal.invariant-loop-bit
invariant-loop-bit l = record {
  long : length l.doubled ≡ 32;
  done : (count : ℕ) → AreImages count l.images → (k : ℕ) → k < l.bit → get_or l.doubled k 0 ≡ bit_steps (count + count) (2 ^ k);
}
