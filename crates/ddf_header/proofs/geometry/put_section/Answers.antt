use Rattle.std.proofs.Common.{◌≡◌, ◌+◌, arith}
use Rattle.std.specs.Int.{w32, to_be_bytes}
use Rattle.ddf_seal.specs.Unread.{placed}
use Rattle.ddf_seal.proofs.Same.{as_placed, placed_after}
use Rattle.ddf_header.proofs.geometry.put_section.Goals as goal

pub returns : goal.returns
returns c =
    let header = c.args.header.now in
    let section = c.args.section.now in
    let first : c.put32.new.into ≡ placed header c.args.at (to_be_bytes w32 section.offset) = as_placed _ _ _ _ c.put32.ensures.written in
    let second : c.put32-2.new.into ≡ placed c.put32.new.into (c.args.at + 4) (to_be_bytes w32 section.length) = as_placed _ _ _ _ c.put32-2.ensures.written in
    rw (second, first) (placed_after header c.args.at (to_be_bytes w32 section.offset) (to_be_bytes w32 section.length) (omega arith))
