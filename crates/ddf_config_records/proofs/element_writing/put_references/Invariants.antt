use Rattle.std.proofs.Common.{◌≡◌, take}
use Rattle.std.specs.List.{flat_map}
use Rattle.std.specs.Int.{w32, to_be_bytes}
use Rattle.ddf_seal.specs.Unread.{placed}
use Rattle.ddf_config_records.specs.declared.layout.TheConstants.{REFERENCES_AT}
use Rattle.ddf_config_records.proofs.element_writing.put_references.Given as goal

abbrev pub invariant-loop-index : goal.invariant-loop-index
invariant-loop-index l = l.into ≡ placed l.initial.into REFERENCES_AT (flat_map (λ member. to_be_bytes w32 member.reference) (take l.index l.members))
