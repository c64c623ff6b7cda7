use Rattle.std.proofs.Common.{◌≡◌, length}
use Rattle.ddf_plan.specs.CreateRefusal.{names_twice}
use Rattle.ddf_plan.proofs.create_refusal.names_twice.Given as goal

abbrev pub invariant-loop-first : goal.invariant-loop-first
invariant-loop-first l = names_twice l.rest ≡ names_twice l.references

abbrev pub decreases-loop-first : goal.decreases-loop-first
decreases-loop-first l = length l.rest
