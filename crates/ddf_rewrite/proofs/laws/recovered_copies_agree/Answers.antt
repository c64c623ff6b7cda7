use Rattle.ddf_rewrite.proofs.Agreed.{recovered_agree}
use Rattle.ddf_rewrite.proofs.laws.recovered_copies_agree.Goals as goal

pub returns : goal.returns
returns c = λ old other group sequence views timestamp can other_can. recovered_agree old other group sequence views timestamp can other_can
