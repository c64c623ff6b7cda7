use Rattle.std.proofs.Common.{◌∙◌}
use Rattle.ddf_lemmas.proofs.Lists.{zip_matches}
use Rattle.ddf_plan.specs.Same.{same_position}
use Rattle.ddf_plan.proofs.same.same_positions.Goals as goal

pub returns-then-one-other : goal.returns-then-one-other
returns-then-one-other c = c.each_same_position.ensures ∙ zip_matches same_position c.args.one.now c.args.other.now c.if-one-other.true
