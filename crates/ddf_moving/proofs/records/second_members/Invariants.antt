use Rattle.std.proofs.Common.{◌≡◌, take}
use Rattle.ddf_moving.proofs.records.second_members.Given as goal

abbrev pub invariant-loop-member : goal.invariant-loop-member
invariant-loop-member l = l.second.items ≡ take l.member-index l.members
