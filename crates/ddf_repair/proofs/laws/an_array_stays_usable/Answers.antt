use Rattle.ddf_repair.proofs.Usable.{usable_kept}
use Rattle.ddf_repair.proofs.laws.an_array_stays_usable.Goals as goal

pub returns : goal.returns
returns c = λ config change sequence seats guid array is there. usable_kept config change is seats guid array there
