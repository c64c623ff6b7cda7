use Rattle.std.proofs.Common.{◌≡◌, ◌++◌}
use Rattle.ddf_config.proofs.config.second_members.Given as goal

abbrev pub invariant-loop-reference : goal.invariant-loop-reference
invariant-loop-reference l = l.second.entries ++ l.reference-iterator ≡ l.members.entries
