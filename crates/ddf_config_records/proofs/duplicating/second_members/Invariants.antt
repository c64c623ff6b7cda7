use Rattle.std.proofs.Common.{◌≡◌, take}
use Rattle.ddf_config_records.proofs.duplicating.second_members.Given as goal

abbrev pub invariant-loop-member : goal.invariant-loop-member
invariant-loop-member l = l.second.items ≡ take l.member-index l.members
