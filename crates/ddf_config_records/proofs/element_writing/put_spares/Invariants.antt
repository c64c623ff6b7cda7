use Rattle.std.proofs.Common.{◌≡◌, take}
use Rattle.std.specs.List.{flat_map}
use Rattle.std.specs.Int.{w32, to_be_bytes}
use Rattle.ddf_seal.specs.Unread.{placed}
use Rattle.ddf_config_records.specs.declared.layout.TheConstants.{SPARES_AT}
use Rattle.ddf_config_records.proofs.element_writing.put_spares.Given as goal

abbrev pub invariant-loop-index : goal.invariant-loop-index
invariant-loop-index l = l.into ≡ placed l.initial.into SPARES_AT (flat_map (to_be_bytes w32) (take l.index l.spares))
