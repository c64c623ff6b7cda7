use Rattle.std.proofs.Common.{refl}
use Rattle.ddf_bay.specs.Logged.{zeros}
use Rattle.ddf_bay.proofs.log.blank.Goals as goal

pub returns : goal.returns
unfolding zeros
returns c = refl
