use Rattle.ddf_rewrite.proofs.Agreeing.{copies_agree}
use Rattle.ddf_rewrite.proofs.laws.changed_copies_agree.Goals as goal

pub returns : goal.returns
returns c = λ old other leaders config timestamp names rebuilt room other_room. copies_agree old other leaders config timestamp names rebuilt room other_room
