use Rattle.std.proofs.Common.{◌≡◌, take, length}
use Rattle.std.specs.List.{AllByRecursion}
use Rattle.ddf_config_records.proofs.number_bounds.guids_fit.Given as goal

abbrev pub invariant-loop-guid : goal.invariant-loop-guid
invariant-loop-guid l = AllByRecursion (λ guid. length guid ≡ 24) (take l.guid-index l.guids)
