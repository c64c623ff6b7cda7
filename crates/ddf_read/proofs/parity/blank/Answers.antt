use Rattle.std.proofs.Common.{refl}
use Rattle.ddf_parity.specs.Xor.{zeros}
use Rattle.ddf_read.proofs.parity.blank.Goals as goal

pub returns : goal.returns
unfolding zeros
returns c = refl
