use Rattle.std.proofs.Common.{◌≡◌, take, length}
use Rattle.ddf_config_records.specs.Bits.{bits_of}
use Rattle.ddf_config_records.proofs.bit_set.put_bits.Given as goal

abbrev pub invariant-loop-position : goal.invariant-loop-position
invariant-loop-position l = l.bits ≡ bits_of (length l.fn.bits) (take l.position-index l.out)
