use Rattle.ddf_data_array.proofs.LessRows.{kept_less}
use Rattle.ddf_data_array.proofs.laws.fewer_places_change_nothing.Goals as goal

pub returns : goal.returns
returns c = kept_less
