use Rattle.std.proofs.Common.{◌≡◌, None, take}
use Rattle.ddf_config.specs.Refusals.{first_refusal}
use Rattle.ddf_config.proofs.refusal.first_refusal.Given as goal

abbrev pub invariant-loop-check : goal.invariant-loop-check
invariant-loop-check l = first_refusal (take l.check-index l.checks) ≡ None
