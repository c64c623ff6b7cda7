use Rattle.std.proofs.Common.{◌∙◌}
use Rattle.std.specs.Option.{option_eq}
use Rattle.ddf_lemmas.proofs.Lists.{zip_matches}
use Rattle.ddf_plan.specs.Same.{same_element}
use Rattle.ddf_plan.proofs.same.same_parts.Goals as goal

pub returns-then-one-other : goal.returns-then-one-other
returns-then-one-other c = c.each_same_part.ensures ∙ zip_matches (option_eq same_element) c.args.one.now c.args.other.now c.if-one-other.true
