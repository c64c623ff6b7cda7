use Rattle.ddf_primary.proofs.Served.{served}
use Rattle.ddf_primary.proofs.laws.a_served_layout_needs_what_its_level_says.Goals as goal

pub returns-clause-need : goal.returns-clause-need
returns-clause-need c = λ level qualifier layout is. (served level qualifier layout is).need

pub returns-clause-more : goal.returns-clause-more
returns-clause-more c = λ level qualifier layout is. (served level qualifier layout is).more
