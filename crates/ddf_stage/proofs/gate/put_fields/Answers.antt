use Rattle.std.proofs.Common.{◌≡◌, refl}
use Rattle.std.specs.Int.{w16, w64, to_be_bytes}
use Rattle.ddf_seal.specs.Unread.{placed}
use Rattle.ddf_seal.proofs.Same.{as_placed}
use Rattle.ddf_stage.specs.declared.layout.TheConstants.{BLOCK_AT, PARITIES_AT}
use Rattle.ddf_stage.proofs.gate.put_fields.Goals as goal

pub returns : goal.returns
returns c =
    let parities : c.put16.new.into ≡ placed c.put64.new.into PARITIES_AT (to_be_bytes w16 c.args.gate.now.parities) = as_placed _ _ _ _ c.put16.ensures.written in
    let block : c.put64.new.into ≡ placed c.place-3.new.into BLOCK_AT (to_be_bytes w64 c.args.gate.now.block) = as_placed _ _ _ _ c.put64.ensures.written in
    rw (parities, block, c.place-3.ensures, c.flag.ensures, c.place-2.ensures, c.place.ensures, c.bytes.ensures) refl
