use Rattle.std.proofs.Common.{◌≡◌, ◌+◌, ◌≤◌, ap, arith}
use Rattle.ddf_config.specs.Configuration.{Configuration}
use Rattle.ddf_plan.specs.Refusals.{greatest_sequence}
use Rattle.ddf_plan.specs.Causes.{steps_of}
use Rattle.ddf_plan.proofs.Afters.{is_changed, in_range, steps_taken}
use Rattle.ddf_plan.proofs.laws.a_change_raises_the_sequence.Goals as goal

pub returns-clause-raised : goal.returns-clause-raised
returns-clause-raised c = λ config next change seats e.
    let reached : config.sequence + steps_of change ≡ next.sequence = ap (λ (to : Configuration). to.sequence) (is_changed config next change seats e).1 in
    let taken = steps_taken change in
    omega (arith, reached, taken)

pub returns-clause-bounded : goal.returns-clause-bounded
returns-clause-bounded c = λ config next change seats e.
    let parts = is_changed config next change seats e in
    let reached : config.sequence + steps_of change ≡ next.sequence = ap (λ (to : Configuration). to.sequence) parts.1 in
    let range : config.sequence + steps_of change ≤ greatest_sequence = in_range config change seats parts.0 in
    omega (arith, reached, range)
