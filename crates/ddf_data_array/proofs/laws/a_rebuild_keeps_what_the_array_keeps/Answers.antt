use Rattle.ddf_data_array.proofs.Resynced.{kept_rebuilding}
use Rattle.ddf_data_array.proofs.laws.a_rebuild_keeps_what_the_array_keeps.Goals as goal

pub returns : goal.returns
returns c = kept_rebuilding
