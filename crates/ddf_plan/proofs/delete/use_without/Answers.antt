use Rattle.std.proofs.Common.{◌∙◌, ap}
use Rattle.ddf_plan.specs.Delete.{dedicated}
use Rattle.ddf_plan.proofs.delete.use_without.Goals as goal

pub returns-in_ok-left-in-Dedicated : goal.returns-in_ok-left-in-Dedicated
returns-in_ok-left-in-Dedicated c =
    rw c.in-Dedicated.is
    (c.dedicated.ensures ∙ ap dedicated (rw c.items.ensures at c.in_ok-left-in-Dedicated.ensures))
