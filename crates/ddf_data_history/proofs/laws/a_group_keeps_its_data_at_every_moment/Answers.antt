use Rattle.ddf_data_history.proofs.Steps.{history_keeps}
use Rattle.ddf_data_history.proofs.laws.a_group_keeps_its_data_at_every_moment.Goals as goal

pub returns : goal.returns
returns c = history_keeps
