use Rattle.std.proofs.Common.{◌∙◌, sym}
use Rattle.ddf_view.proofs.AlikeCopies.{by_first}
use Rattle.ddf_view.proofs.alike.are_alike.Goals as goal

pub returns-in-Some : goal.returns-in-Some
returns-in-Some c = c.are_as_first.ensures ∙ by_first c.args.views.now c.in-Some.first.now (sym c.in-Some.ensures.value)
