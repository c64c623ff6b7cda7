use Rattle.std.proofs.Common.{◌≡◌, not, filter, take}
use Rattle.ddf_config.specs.Members.{same_guid}
use Rattle.ddf_plan.proofs.delete.guids_without.Given as goal

abbrev pub invariant-loop-other : goal.invariant-loop-other
invariant-loop-other l = l.left.items ≡ filter (λ other. not (same_guid l.guid other)) (take l.other-index l.guids)
