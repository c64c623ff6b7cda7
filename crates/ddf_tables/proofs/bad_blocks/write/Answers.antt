use Rattle.std.proofs.Common.{◌≡◌, ◌∙◌, length, refl, ap}
use Rattle.std.specs.Int.{w16, w32, w64, to_be_bytes}
use Rattle.ddf_seal.specs.Seal.{sealed}
use Rattle.ddf_seal.specs.Unread.{placed, written}
use Rattle.ddf_seal.proofs.Same.{as_placed}
use Rattle.ddf_tables.specs.declared.layout.TheConstants.{LOG_COUNT_AT, LOG_SPARE_COUNT_AT, LOG_FIRST_SPARE_AT}
use Rattle.ddf_tables.specs.BadBlocks.{log_signature, log_fields}
use Rattle.ddf_tables.proofs.bad_blocks.write.Goals as goal

pub returns-clause-exact : goal.returns-clause-exact
returns-clause-exact c =
    let log = c.args.log.now in
    let s1 : c.put16.new.into ≡ placed c.copy_from_slice.new.self LOG_COUNT_AT (to_be_bytes w16 (length c.as_slice-entries.result.now)) = as_placed _ _ _ _ c.put16.ensures.written in
    let s2 : c.put32.new.into ≡ placed c.put16.new.into LOG_SPARE_COUNT_AT (to_be_bytes w32 c.log.inside.spare_count) = as_placed _ _ _ _ c.put32.ensures.written in
    let s3 : c.put64.new.into ≡ placed c.put32.new.into LOG_FIRST_SPARE_AT (to_be_bytes w64 c.log.inside.first_spare) = as_placed _ _ _ _ c.put64.ensures.written in
    let whole : c.put_entries.new.section ≡ written (log_fields log) log.rest =
    rw (c.put_entries.ensures, s3, s2, s1, c.copy_from_slice.ensures.after, c.as_slice.ensures.value, c.as_slice-entries.ensures.value, ← c.log.view_is) refl in
    c.seal.ensures.exact ∙ ap (sealed log_signature) whole
