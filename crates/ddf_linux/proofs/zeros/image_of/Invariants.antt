use Rattle.std.proofs.Common.{◌≡◌, ◌/◌, ◌*◌, ◌^◌, ℕ, bit_xor}
use Rattle.ddf_seal.specs.Crc.{bit_steps}
use Rattle.ddf_linux.specs.Zeros.{AreImages}
use Rattle.ddf_linux.proofs.zeros.image_of.Given as goal

abbrev pub invariant-loop-image : goal.invariant-loop-image
invariant-loop-image l = record {
  left : l.rest ≡ l.register / 2 ^ l.image-index;
  sum : (count : ℕ) → AreImages count l.images → bit_xor l.sum (bit_steps count (l.rest * 2 ^ l.image-index)) ≡ bit_steps count l.register;
}
