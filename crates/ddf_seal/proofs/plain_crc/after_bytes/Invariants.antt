use Rattle.std.proofs.Common.{◌≡◌, fold, take}
use Rattle.ddf_seal.specs.Crc.{byte_step}
use Rattle.ddf_seal.proofs.plain_crc.after_bytes.Given as goal

abbrev pub invariant-loop-byte : goal.invariant-loop-byte
invariant-loop-byte l = l.register ≡ fold byte_step l.fn.register (take l.byte-index l.bytes)
