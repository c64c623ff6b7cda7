use Rattle.std.proofs.Common.{ap, sym, ◌∙◌}
use Rattle.std.specs.Map.{keys_of}
use Rattle.ddf_config.specs.Configuration.{Configuration}
use Rattle.ddf_plan.proofs.Afters.{is_changed}
use Rattle.ddf_plan.proofs.Kept.{members_keys}
use Rattle.ddf_plan.proofs.laws.a_change_keeps_the_members.Goals as goal

pub returns : goal.returns
returns c = λ config next change seats e.
    sym (ap (λ (to : Configuration). keys_of to.members) (is_changed config next change seats e).1) ∙ members_keys config change
