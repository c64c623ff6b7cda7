use Rattle.ddf_view.proofs.Agreement.{read_together}
use Rattle.ddf_view.proofs.laws.views_give_what_they_show.Goals as goal

pub returns : goal.returns
returns c = λ config view views can noted h others. read_together config view views can noted h others
