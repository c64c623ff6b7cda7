use Rattle.ddf_data_history.proofs.Viewed.{are_members}
use Rattle.ddf_data_history.proofs.laws.seats_have_their_own_slots.Goals as goal

pub returns : goal.returns
returns c = are_members
