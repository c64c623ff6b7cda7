use Rattle.std.proofs.Common.{◌≡◌, refl}
use Rattle.std.specs.Int.{w32, w64, to_be_bytes}
use Rattle.ddf_seal.specs.Unread.{placed}
use Rattle.ddf_seal.proofs.Same.{as_placed}
use Rattle.ddf_header.specs.declared.layout.TheConstants.{SEQUENCE_AT, TIMESTAMP_AT, PRIMARY_LBA_AT, SECONDARY_LBA_AT}
use Rattle.ddf_header.proofs.writing.put_names.Goals as goal

pub returns : goal.returns
returns c =
    let header = c.args.header.now in
    let s3 : c.put32.new.into ≡ placed c.place-2.new.into SEQUENCE_AT (to_be_bytes w32 header.sequence) = as_placed _ _ _ _ c.put32.ensures.written in
    let s4 : c.put32-2.new.into ≡ placed c.put32.new.into TIMESTAMP_AT (to_be_bytes w32 header.timestamp) = as_placed _ _ _ _ c.put32-2.ensures.written in
    let s6 : c.put64.new.into ≡ placed c.place-3.new.into PRIMARY_LBA_AT (to_be_bytes w64 header.primary_lba) = as_placed _ _ _ _ c.put64.ensures.written in
    let s7 : c.put64-2.new.into ≡ placed c.put64.new.into SECONDARY_LBA_AT (to_be_bytes w64 header.secondary_lba) = as_placed _ _ _ _ c.put64-2.ensures.written in
    rw (c.place-4.ensures, c.code.ensures, s7, s6, c.place-3.ensures, s4, s3, c.place-2.ensures, c.text.ensures, c.place.ensures, c.bytes.ensures) refl
