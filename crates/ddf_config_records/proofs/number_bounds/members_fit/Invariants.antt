use Rattle.std.proofs.Common.{◌<◌, ◌^◌, take, map}
use Rattle.std.specs.List.{AllByRecursion}
use Rattle.ddf_config_records.proofs.number_bounds.members_fit.Given as goal

abbrev pub invariant-loop-member : goal.invariant-loop-member
invariant-loop-member l =
    AllByRecursion (λ reference. reference < 2 ^ 32) (map (λ member. member.reference) (take l.member-index l.members))
    × AllByRecursion (λ start. start < 2 ^ 64) (map (λ member. member.start) (take l.member-index l.members))
