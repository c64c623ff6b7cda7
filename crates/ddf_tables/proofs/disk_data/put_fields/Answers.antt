use Rattle.std.proofs.Common.{◌≡◌, refl}
use Rattle.std.specs.Int.{w32, to_be_bytes}
use Rattle.ddf_seal.specs.Unread.{placed}
use Rattle.ddf_seal.proofs.Same.{as_placed}
use Rattle.ddf_tables.specs.declared.layout.TheConstants.{DISK_DATA_REFERENCE_AT}
use Rattle.ddf_tables.proofs.disk_data.put_fields.Goals as goal

pub returns : goal.returns
returns c =
    let reference : c.put32.new.into ≡ placed c.place.new.into DISK_DATA_REFERENCE_AT (to_be_bytes w32 c.args.value.now.reference) = as_placed _ _ _ _ c.put32.ensures.written in
    rw (reference, c.place.ensures, c.bytes.ensures) refl
