use Rattle.ddf_rewrite.proofs.associated.spares_of.Goals as goal

pub returns : goal.returns
returns c = rw (← c.config.view_is) c.spares_among.ensures
