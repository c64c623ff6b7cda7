use Rattle.std.proofs.Common.{◌≡◌, refl}
use Rattle.std.specs.Int.{w16, w32, w64, to_be_bytes}
use Rattle.ddf_seal.specs.Unread.{placed}
use Rattle.ddf_seal.proofs.Same.{as_placed}
use Rattle.ddf_header.specs.declared.layout.TheConstants.{WORKSPACE_LENGTH_AT, WORKSPACE_LBA_AT, MAX_DISKS_AT, MAX_ARRAYS_AT, MAX_PARTITIONS_AT, RECORD_LENGTH_AT, MAX_MEMBERS_AT}
use Rattle.ddf_header.proofs.geometry.Geometry.put.Goals as goal

pub returns : goal.returns
returns c =
    let geometry = c.args.self.now in
    let s1 : c.put32.new.into ≡ placed c.args.header.now WORKSPACE_LENGTH_AT (to_be_bytes w32 geometry.workspace_length) = as_placed _ _ _ _ c.put32.ensures.written in
    let s2 : c.put64.new.into ≡ placed c.put32.new.into WORKSPACE_LBA_AT (to_be_bytes w64 geometry.workspace_lba) = as_placed _ _ _ _ c.put64.ensures.written in
    let s3 : c.put16.new.into ≡ placed c.put64.new.into MAX_DISKS_AT (to_be_bytes w16 geometry.max_disks) = as_placed _ _ _ _ c.put16.ensures.written in
    let s4 : c.put16-2.new.into ≡ placed c.put16.new.into MAX_ARRAYS_AT (to_be_bytes w16 geometry.max_arrays) = as_placed _ _ _ _ c.put16-2.ensures.written in
    let s5 : c.put16-3.new.into ≡ placed c.put16-2.new.into MAX_PARTITIONS_AT (to_be_bytes w16 geometry.max_partitions) = as_placed _ _ _ _ c.put16-3.ensures.written in
    let s6 : c.put16-4.new.into ≡ placed c.put16-3.new.into RECORD_LENGTH_AT (to_be_bytes w16 geometry.record_length) = as_placed _ _ _ _ c.put16-4.ensures.written in
    let s7 : c.put16-5.new.into ≡ placed c.put16-4.new.into MAX_MEMBERS_AT (to_be_bytes w16 geometry.max_members) = as_placed _ _ _ _ c.put16-5.ensures.written in
    rw (c.put_sections.ensures, s7, s6, s5, s4, s3, s2, s1) refl
