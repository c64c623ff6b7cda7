use Rattle.std.proofs.Common.{sym, ◌∙◌}
use Rattle.ddf_rewrite.proofs.FreePlaces.{put_there, put_nowhere}
use Rattle.ddf_rewrite.proofs.associated.put_spare.Goals as goal

pub returns-in-Some : goal.returns-in-Some
returns-in-Some c = put_there c.args.places.now c.args.reference c.in-Some.place (sym c.first_free.ensures ∙ c.in-Some.is)

pub returns-in_default : goal.returns-in_default
returns-in_default c = put_nowhere c.args.places.now c.args.reference (sym c.first_free.ensures ∙ c.in_default.is)
