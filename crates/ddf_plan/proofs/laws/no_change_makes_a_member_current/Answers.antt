use Rattle.std.proofs.Common.{ap, ◌∙◌}
use Rattle.ddf_config.specs.Configuration.{Configuration}
use Rattle.ddf_config.specs.Members.{is_current}
use Rattle.ddf_plan.proofs.Afters.{is_changed}
use Rattle.ddf_plan.proofs.Kept.{current_stays}
use Rattle.ddf_plan.proofs.laws.no_change_makes_a_member_current.Goals as goal

pub returns : goal.returns
returns c = λ config next change seats reference e there.
    current_stays config change reference
    (ap (λ (to : Configuration). is_current to.members reference) (is_changed config next change seats e).1 ∙ there)
