use Rattle.std.proofs.Common.{◌≡◌, ◌∙◌, length, refl, ap}
use Rattle.std.specs.List.{flat_map}
use Rattle.std.specs.Int.{w16, to_be_bytes}
use Rattle.ddf_seal.specs.Seal.{sealed}
use Rattle.ddf_seal.specs.Unread.{placed}
use Rattle.ddf_seal.proofs.Same.{as_placed}
use Rattle.ddf_tables.specs.declared.layout.TheConstants.{POPULATED_AT, MAXIMUM_AT, ROWS_AT}
use Rattle.ddf_tables.proofs.table.Table.encode.Goals as goal

pub returns-clause-exact : goal.returns-clause-exact
returns-clause-exact g c =
    let value = c.args.self.now in
    let s1 : c.put16.new.into ≡ placed c.copy_from_slice.new.self POPULATED_AT (to_be_bytes w16 c.self.inside.populated) = as_placed _ _ _ _ c.put16.ensures.written in
    let s2 : c.put16-2.new.into ≡ placed c.put16.new.into MAXIMUM_AT (to_be_bytes w16 (length c.as_slice-rows.result.now)) = as_placed _ _ _ _ c.put16-2.ensures.written in
    let whole : c.put_rows.new.section ≡ placed (placed (placed value.rest POPULATED_AT (to_be_bytes w16 value.populated)) MAXIMUM_AT (to_be_bytes w16 (length value.rows))) ROWS_AT (flat_map g.R.Row.row_bytes value.rows) =
    rw (c.put_rows.ensures, s2, s1, c.copy_from_slice.ensures.after, c.as_slice.ensures.value, c.as_slice-rows.ensures.value, ← c.self.view_is) refl in
    c.seal.ensures.exact ∙ ap (λ n. sealed n c.put_rows.new.section) c.SIGNATURE.ensures ∙ ap (sealed g.R.Row.SIGNATURE) whole
