use Rattle.ddf_data_history.proofs.Steps.{seats_are}
use Rattle.ddf_data_history.proofs.laws.seats_are_those_of_current_members.Goals as goal

pub returns : goal.returns
returns c = seats_are
