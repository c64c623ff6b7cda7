use Rattle.ddf_resync.proofs.Extents.{sectors_in_extents}
use Rattle.ddf_resync.proofs.laws.a_resync_sets_sectors_of_extents.Goals as goal

pub returns : goal.returns
returns c = sectors_in_extents
