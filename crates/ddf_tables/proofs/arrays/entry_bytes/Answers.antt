use Rattle.std.proofs.Common.{◌≡◌, refl}
use Rattle.std.specs.Int.{w16, to_be_bytes}
use Rattle.ddf_seal.specs.Unread.{placed}
use Rattle.ddf_seal.proofs.Same.{as_placed}
use Rattle.ddf_tables.specs.declared.layout.TheConstants.{ARRAY_NUMBER_AT}
use Rattle.ddf_tables.proofs.arrays.entry_bytes.Goals as goal

pub returns : goal.returns
returns c =
    let s2 : c.put16.new.into ≡ placed c.place.new.into ARRAY_NUMBER_AT (to_be_bytes w16 c.args.entry.now.number) = as_placed _ _ _ _ c.put16.ensures.written in
    rw (c.place-4.ensures, c.place-3.ensures, c.place-2.ensures, s2, c.place.ensures, c.bytes.ensures) refl
