use Rattle.std.proofs.Common.{◌≡◌}
use Rattle.ddf_config_records.specs.Elements.{members_at}
use Rattle.ddf_config_records.proofs.element_reading.members.Given as goal

abbrev pub invariant-loop-index : goal.invariant-loop-index
invariant-loop-index l = l.members.items ≡ members_at l.most l.bytes l.index
