use Rattle.ddf_data_history.proofs.Steps.{by_loss}
use Rattle.ddf_data_history.proofs.laws.a_loss_keeps_the_data.Goals as goal

pub returns : goal.returns
returns c = by_loss
