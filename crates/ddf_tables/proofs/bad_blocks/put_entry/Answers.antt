use Rattle.std.proofs.Common.{◌≡◌, ◌+◌, refl}
use Rattle.std.specs.Int.{w16, w32, w64, to_be_bytes}
use Rattle.ddf_seal.specs.Unread.{placed}
use Rattle.ddf_seal.proofs.Same.{as_placed}
use Rattle.ddf_tables.specs.declared.layout.TheConstants.{BAD_SPARE_AT, BAD_COUNT_AT}
use Rattle.ddf_tables.proofs.bad_blocks.put_entry.Goals as goal

pub returns : goal.returns
returns c =
    let block = c.args.block.now in
    let s1 : c.put64.new.into ≡ placed c.args.section.now c.args.at (to_be_bytes w64 block.start) = as_placed _ _ _ _ c.put64.ensures.written in
    let s2 : c.put32.new.into ≡ placed c.put64.new.into (c.args.at + BAD_SPARE_AT) (to_be_bytes w32 block.spare) = as_placed _ _ _ _ c.put32.ensures.written in
    let s3 : c.put16.new.into ≡ placed c.put32.new.into (c.args.at + BAD_COUNT_AT) (to_be_bytes w16 block.count) = as_placed _ _ _ _ c.put16.ensures.written in
    rw (s3, s2, s1) refl
