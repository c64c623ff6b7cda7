use Rattle.std.proofs.Common.{◌≡◌, ◌++◌, filter}
use Rattle.std.specs.List.{list_any}
use Rattle.std.specs.Map.{keys_of}
use Rattle.ddf_config.specs.Members.{same_guid}
use Rattle.ddf_plan.proofs.spare.guids_in_order.Given as goal

abbrev pub invariant-loop-guid : goal.invariant-loop-guid
invariant-loop-guid l =
    l.ordered.items ++ filter (λ guid. list_any (same_guid guid) l.guids) l.guid-iterator
    ≡ filter (λ guid. list_any (same_guid guid) l.guids) (keys_of l.arrays.entries)
