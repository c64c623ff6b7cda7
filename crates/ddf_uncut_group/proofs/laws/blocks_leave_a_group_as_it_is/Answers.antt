use Rattle.ddf_uncut_group.proofs.BlocksBelow.{blocks_settled}
use Rattle.ddf_uncut_group.proofs.laws.blocks_leave_a_group_as_it_is.Goals as goal

pub returns : goal.returns
returns c = λ sizes old new left group settled leaves. blocks_settled sizes old new left group settled leaves
