use Rattle.std.proofs.Common.{◌≡◌, ◌∙◌, refl, ap}
use Rattle.std.specs.Int.{w32, to_be_bytes}
use Rattle.ddf_seal.specs.Seal.{sealed}
use Rattle.ddf_seal.specs.Unread.{placed, written}
use Rattle.ddf_seal.proofs.Same.{as_placed}
use Rattle.ddf_config_records.specs.declared.layout.TheConstants.{SPARE_TIMESTAMP_AT}
use Rattle.ddf_config_records.specs.Spares.{spare_signature, spare_fields}
use Rattle.ddf_config_records.proofs.spare_writing.write_spare.Goals as goal

pub returns-clause-exact : goal.returns-clause-exact
returns-clause-exact c =
    let spare = c.args.spare.now in
    let first : c.put32.new.into ≡ placed c.copy_from_slice.new.self SPARE_TIMESTAMP_AT (to_be_bytes w32 spare.timestamp) = as_placed _ _ _ _ c.put32.ensures.written in
    let all : c.put_arrays.new.into ≡ written (spare_fields spare) spare.rest = rw (c.put_arrays.ensures, c.items-2.ensures, c.place.ensures, first, c.copy_from_slice.ensures.after, c.items.ensures) refl in
    c.seal.ensures.exact ∙ ap (sealed spare_signature) all
