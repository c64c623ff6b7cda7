use Rattle.std.proofs.Common.{◌≡◌, map}
use Rattle.std.specs.List.{range_with_len}
use Rattle.ddf_seal.specs.Unread.{cleared}
use Rattle.ddf_config_records.specs.Spares.{entry_place}
use Rattle.ddf_config_records.proofs.spare_reading.unread.Given as goal

abbrev pub invariant-loop-index : goal.invariant-loop-index
invariant-loop-index l = l.rest.items ≡ cleared (map entry_place (range_with_len 0 l.index)) l.initial.rest.items
