use Rattle.ddf_steps.proofs.Reached.{AreReached}
use Rattle.ddf_steps.proofs.changes.steps_of.Given as goal

abbrev pub invariant-loop-change : goal.invariant-loop-change
invariant-loop-change l = AreReached l.timestamp l.config l.disks l.changes l.change-index l.steps.items
