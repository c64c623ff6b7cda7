use Rattle.std.proofs.Common.{◌≡◌, refl, subst}
use Rattle.std.specs.Int.{w16, w64, to_be_bytes}
use Rattle.ddf_seal.specs.Unread.{placed, written}
use Rattle.ddf_seal.proofs.Same.{as_placed}
use Rattle.ddf_config_records.specs.declared.layout.TheConstants.{BLOCKS_AT, SIZE_AT, BLOCK_SIZE_AT}
use Rattle.ddf_config_records.specs.ElementValue.{ElementValue}
use Rattle.ddf_config_records.specs.Elements.{shape_fields}
use Rattle.ddf_config_records.proofs.element_writing.put_shape.Goals as goal

pub returns : goal.returns
returns c =
    let element = c.element.inside in
    let s1 : c.put64.new.into ≡ placed c.place-3.new.into BLOCKS_AT (to_be_bytes w64 element.blocks) = as_placed _ _ _ _ c.put64.ensures.written in
    let s2 : c.put64-2.new.into ≡ placed c.put64.new.into SIZE_AT (to_be_bytes w64 element.size) = as_placed _ _ _ _ c.put64-2.ensures.written in
    let s3 : c.put16.new.into ≡ placed c.put64-2.new.into BLOCK_SIZE_AT (to_be_bytes w16 element.block_size) = as_placed _ _ _ _ c.put16.ensures.written in
    subst (λ (e : ElementValue). c.put_spares.new.into ≡ written (shape_fields e) c.args.into.now) c.element.view_is
    (rw (c.put_spares.ensures, s3, s2, s1, c.place-3.ensures, c.place-2.ensures, c.place.ensures) refl)
