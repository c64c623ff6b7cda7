use Rattle.std.proofs.Common.{◌≡◌, refl}
use Rattle.std.specs.Int.{w16, w32, w64, to_be_bytes}
use Rattle.ddf_seal.specs.Unread.{placed}
use Rattle.ddf_seal.proofs.Same.{as_placed}
use Rattle.ddf_tables.specs.declared.layout.TheConstants.{DISK_REFERENCE_AT, DISK_KIND_AT, DISK_STATE_AT, DISK_SIZE_AT}
use Rattle.ddf_tables.proofs.disks.entry_bytes.Goals as goal

pub returns : goal.returns
returns c =
    let entry = c.args.entry.now in
    let s2 : c.put32.new.into ≡ placed c.place.new.into DISK_REFERENCE_AT (to_be_bytes w32 entry.reference) = as_placed _ _ _ _ c.put32.ensures.written in
    let s3 : c.put16.new.into ≡ placed c.put32.new.into DISK_KIND_AT (to_be_bytes w16 entry.kind.0) = as_placed _ _ _ _ c.put16.ensures.written in
    let s4 : c.put16-2.new.into ≡ placed c.put16.new.into DISK_STATE_AT (to_be_bytes w16 entry.state.0) = as_placed _ _ _ _ c.put16-2.ensures.written in
    let s5 : c.put64.new.into ≡ placed c.put16-2.new.into DISK_SIZE_AT (to_be_bytes w64 entry.size) = as_placed _ _ _ _ c.put64.ensures.written in
    rw (s5, s4, s3, s2, c.place.ensures, c.bytes.ensures) refl
