use Rattle.ddf_linux.proofs.Standards.{other_left, standard_is_plain}
use Rattle.ddf_linux.proofs.laws.an_anchor_of_other_places_is_left.Goals as goal

pub returns-clause-left : goal.returns-clause-left
returns-clause-left g c = λ bay slot places anchor kind begins named. rw kind (other_left places anchor begins named)

pub returns-clause-anew : goal.returns-clause-anew
returns-clause-anew g c = λ size sector whole sealed. standard_is_plain size sector whole sealed
