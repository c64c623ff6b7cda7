use Rattle.ddf_primary.proofs.Enough.{is_enough}
use Rattle.ddf_primary.proofs.laws.enough_members_hold_every_block.Goals as goal

pub returns : goal.returns
returns c = λ shape spread there sound is long. is_enough shape spread is sound there long
