use Rattle.ddf_history.proofs.Following.{changes_follow}
use Rattle.ddf_history.proofs.laws.a_change_may_follow.Goals as goal

pub returns : goal.returns
returns c = λ group config change sequence less. changes_follow group config change sequence less
