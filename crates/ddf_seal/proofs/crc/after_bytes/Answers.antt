-- The rule of the tables, computed entry by entry.
use Rattle.std.proofs.Common.{refl}
use Rattle.ddf_seal.specs.Crc.{bit_steps}
use Rattle.ddf_seal.proofs.crc.after_bytes.Goals as goal

pub after_bytes_by-requires : goal.after_bytes_by-requires
unfolding bit_steps
after_bytes_by-requires c = refl
