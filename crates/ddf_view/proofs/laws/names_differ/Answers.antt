use Rattle.ddf_view.proofs.Names.{names_differ}
use Rattle.ddf_view.proofs.laws.names_differ.Goals as goal

pub returns : goal.returns
returns c = λ copy views can. names_differ copy views can
