use Rattle.std.proofs.Common.{◌≡◌, ℕ, List, ◌∙◌, subst}
use Rattle.std.specs.Prelude.{IfOk}
use Rattle.ddf_config.specs.Configuration.{Configuration}
use Rattle.ddf_plan.specs.declared.change.Change.TheVariants.{Lose}
use Rattle.ddf_steps.specs.Steps.{config_after}
use Rattle.ddf_recovery.proofs.recovering.config_lost.Goals as goal

pub returns : goal.returns
returns c =
    subst (λ (config : Configuration). IfOk c.config_after.result (λ next. next ≡ config_after config (Lose c.args.group.now.absent))) c.config.ensures
    (subst (λ (references : List ℕ). IfOk c.config_after.result (λ next. next ≡ config_after c.config.result.now (Lose references)))
    (c.new.ensures ∙ c.in_ok-references.ensures.items ∙ c.absent.ensures) c.config_after.ensures)
