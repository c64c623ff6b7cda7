use Rattle.ddf_data_group.proofs.Vacant.{asks_for}
use Rattle.ddf_data_group.proofs.laws.a_rebuild_that_begins_has_what_it_asks_for.Goals as goal

pub returns : goal.returns
returns c = asks_for
