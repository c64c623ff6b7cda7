use Rattle.std.proofs.Common.{◌≡◌, refl}
use Rattle.std.specs.Int.{w16, to_be_bytes}
use Rattle.ddf_seal.specs.Unread.{placed}
use Rattle.ddf_seal.proofs.Same.{as_placed}
use Rattle.ddf_config_records.specs.declared.layout.TheConstants.{SPARE_POPULATED_AT, SPARE_MAXIMUM_AT}
use Rattle.ddf_config_records.proofs.spare_building.put_numbers.Goals as goal

pub returns : goal.returns
returns c =
    let first : c.put16.new.into ≡ placed c.args.into.now SPARE_POPULATED_AT (to_be_bytes w16 c.args.populated) = as_placed _ _ _ _ c.put16.ensures.written in
    let second : c.put16-2.new.into ≡ placed c.put16.new.into SPARE_MAXIMUM_AT (to_be_bytes w16 c.args.maximum) = as_placed _ _ _ _ c.put16-2.ensures.written in
    rw (c.put_secondary.ensures, second, first) refl
