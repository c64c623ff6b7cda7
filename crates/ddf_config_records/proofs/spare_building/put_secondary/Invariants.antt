use Rattle.std.proofs.Common.{◌≡◌}
use Rattle.ddf_seal.specs.Unread.{written}
use Rattle.ddf_config_records.specs.Building.{secondary_fields}
use Rattle.ddf_config_records.proofs.spare_building.put_secondary.Given as goal

abbrev pub invariant-loop-index : goal.invariant-loop-index
invariant-loop-index l = l.into ≡ written (secondary_fields l.index) l.initial.into
