use Rattle.std.proofs.Common.{◌≡◌, refl, subst}
use Rattle.std.specs.Int.{w16, w32, to_be_bytes}
use Rattle.ddf_seal.specs.Unread.{placed, written}
use Rattle.ddf_seal.proofs.Same.{as_placed}
use Rattle.ddf_config_records.specs.declared.layout.TheConstants.{TIMESTAMP_AT, SEQUENCE_AT, MEMBERS_AT}
use Rattle.ddf_config_records.specs.ElementValue.{ElementValue}
use Rattle.ddf_config_records.specs.Elements.{name_fields}
use Rattle.ddf_config_records.proofs.element_writing.put_names.Goals as goal

pub returns : goal.returns
returns c =
    let element = c.element.inside in
    let s1 : c.put32.new.into ≡ placed c.place.new.into TIMESTAMP_AT (to_be_bytes w32 element.timestamp) = as_placed _ _ _ _ c.put32.ensures.written in
    let s2 : c.put32-2.new.into ≡ placed c.put32.new.into SEQUENCE_AT (to_be_bytes w32 element.sequence) = as_placed _ _ _ _ c.put32-2.ensures.written in
    let s3 : c.put16.new.into ≡ placed c.put32-2.new.into MEMBERS_AT (to_be_bytes w16 c.len.result) = as_placed _ _ _ _ c.put16.ensures.written in
    subst (λ (e : ElementValue). c.place-4.new.into ≡ written (name_fields e) c.args.into.now) c.element.view_is
    (rw (c.place-4.ensures, c.place-3.ensures, c.place-2.ensures, s3, c.len.ensures.value, s2, s1, c.place.ensures, c.bytes.ensures) refl)
