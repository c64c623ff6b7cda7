use Rattle.ddf_uncut_data.proofs.Less.{holds_less}
use Rattle.ddf_uncut_data.proofs.laws.fewer_places_leave_the_blocks.Goals as goal

pub returns : goal.returns
returns c = holds_less
