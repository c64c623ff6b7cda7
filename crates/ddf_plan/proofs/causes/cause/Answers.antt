use Rattle.ddf_plan.specs.Causes.{causes}
use Rattle.ddf_plan.proofs.causes.cause.Goals as goal

pub returns-in-Create : goal.returns-in-Create
unfolding causes
returns-in-Create c = rw c.in-Create.is c.create_cause.ensures
