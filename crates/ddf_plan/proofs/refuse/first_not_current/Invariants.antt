use Rattle.std.proofs.Common.{◌≡◌, None, not, find, take}
use Rattle.ddf_config.specs.Members.{is_current}
use Rattle.ddf_plan.proofs.refuse.first_not_current.Given as goal

abbrev pub invariant-loop-reference : goal.invariant-loop-reference
invariant-loop-reference l = find (λ reference. not (is_current l.members.entries reference)) (take l.reference-index l.references) ≡ None
