use Rattle.ddf_rewrite.specs.Before.{before}
use Rattle.ddf_rewrite.proofs.Roomy.{change_can}
use Rattle.ddf_rewrite.proofs.copies.changed_copy.Goals as goal

pub returns-clause-fits : goal.returns-clause-fits
returns-clause-fits c = change_can c.args.old.now (before c.args.leaders.now) c.args.config.now c.args.timestamp c.requires.old c.requires.holdable c.requires.room
