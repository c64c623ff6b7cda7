use Rattle.std.proofs.Common.{◌≡◌, ◌<◌, ◌^◌, ℕ, length, get_or}
use Rattle.ddf_seal.specs.Crc.{bit_steps}
use Rattle.ddf_linux.proofs.zeros.byte_images.Given as goal

abbrev pub invariant-loop-bit : goal.invariant-loop-bit
invariant-loop-bit l = record {
  long : length l.image-items ≡ 32;
  done : (k : ℕ) → k < l.bit → get_or l.image-items k 0 ≡ bit_steps 8 (2 ^ k);
}
