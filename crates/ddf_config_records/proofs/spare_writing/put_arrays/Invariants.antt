use Rattle.std.proofs.Common.{◌≡◌, take}
use Rattle.ddf_seal.specs.Unread.{written}
use Rattle.ddf_config_records.specs.declared.layout.TheConstants.{SPARE_ENTRIES_AT}
use Rattle.ddf_config_records.specs.Spares.{entry_fields}
use Rattle.ddf_config_records.proofs.spare_writing.put_arrays.Given as goal

abbrev pub invariant-loop-index : goal.invariant-loop-index
invariant-loop-index l = l.into ≡ written (entry_fields SPARE_ENTRIES_AT (take l.index l.arrays)) l.initial.into
