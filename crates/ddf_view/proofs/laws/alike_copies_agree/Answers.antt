use Rattle.ddf_view.proofs.AlikeCopies.{alike_agree}
use Rattle.ddf_view.proofs.laws.alike_copies_agree.Goals as goal

pub returns : goal.returns
returns c = λ views same. alike_agree views same
