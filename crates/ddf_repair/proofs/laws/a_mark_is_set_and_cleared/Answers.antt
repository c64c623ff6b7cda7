use Rattle.ddf_repair.proofs.Marks.{is_cleared, is_set}
use Rattle.ddf_repair.proofs.laws.a_mark_is_set_and_cleared.Goals as goal

pub returns-clause-set : goal.returns-clause-set
returns-clause-set c = λ config sequence guid array there. is_set config guid array there

pub returns-clause-cleared : goal.returns-clause-cleared
returns-clause-cleared c = λ config sequence init guid array there. is_cleared config guid array there init
