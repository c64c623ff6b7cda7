use Rattle.ddf_uncut_group.proofs.SettledStray.{not_stray}
use Rattle.ddf_uncut_group.proofs.laws.a_settled_group_isnt_stray.Goals as goal

pub returns : goal.returns
returns c = λ group settled. not_stray group settled
