use Rattle.ddf_array.proofs.Fewer.{is_loss}
use Rattle.ddf_array.proofs.laws.fewer_seats_are_a_loss.Goals as goal

pub returns : goal.returns
returns c = is_loss
