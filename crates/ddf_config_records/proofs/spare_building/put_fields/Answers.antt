use Rattle.std.proofs.Common.{◌≡◌, refl}
use Rattle.std.specs.Int.{w32, to_be_bytes}
use Rattle.ddf_seal.specs.Unread.{placed}
use Rattle.ddf_seal.proofs.Same.{as_placed}
use Rattle.ddf_config_records.specs.declared.layout.TheConstants.{SPARE_TIMESTAMP_AT}
use Rattle.ddf_config_records.proofs.spare_building.put_fields.Goals as goal

pub returns : goal.returns
returns c =
    let first : c.put32.new.into ≡ placed c.args.into.now SPARE_TIMESTAMP_AT (to_be_bytes w32 c.args.spare.now.timestamp) = as_placed _ _ _ _ c.put32.ensures.written in
    rw (c.put_arrays.ensures, c.items.ensures, c.place.ensures, first) refl
