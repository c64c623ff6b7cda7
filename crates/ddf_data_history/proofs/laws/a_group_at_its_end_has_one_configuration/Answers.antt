use Rattle.ddf_data_history.proofs.Viewed.{last_alone}
use Rattle.ddf_data_history.proofs.laws.a_group_at_its_end_has_one_configuration.Goals as goal

pub returns : goal.returns
returns c = last_alone
