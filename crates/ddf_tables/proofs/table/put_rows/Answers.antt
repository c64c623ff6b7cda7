use Rattle.std.proofs.Common.{◌≡◌, ◌+◌, ◌*◌, ◌<◌, ◌++◌, ◌∙◌, refl, sym, ap, length, take, arith, length-append}
use Rattle.std.specs.List.{flat_map}
use Rattle.ddf_seal.specs.Unread.{placed}
use Rattle.ddf_seal.proofs.Same.{placed_none}
use Rattle.ddf_tables.specs.declared.layout.TheConstants.{ROWS_AT, ROW_BYTES}
use Rattle.ddf_tables.proofs.TableRows.{row_bytes_more, placed_more}
use Rattle.ddf_tables.proofs.table.put_rows.Goals as goal

pub loop-index-init : goal.loop-index-init
loop-index-init g c = record { written = sym (placed_none c.args.section.now ROWS_AT); size = refl }

pub loop-index-preserved : goal.loop-index-preserved
loop-index-preserved g c =
    let section = c.args.section.now in
    let rows = c.args.rows.now in
    let row_bytes = g.R.Row.row_bytes in
    let i = c.loop-index.index in
    let done = flat_map row_bytes (take i rows) in
    let bytes = c.bytes.result in
    let lt : i < length rows = omega arith in
    let one : length bytes ≡ ROW_BYTES = omega arith in
    let size : length done ≡ ROW_BYTES * i = c.loop-index.invariant.size in
    let more : flat_map row_bytes (take (i + 1) rows) ≡ done ++ bytes =
    row_bytes_more row_bytes rows i c.index-rows-index.result lt (sym c.index-rows-index.is) ∙ ap (λ l. done ++ l) (sym c.bytes.ensures) in
    let put : c.place.new.into ≡ placed (placed section ROWS_AT done) (ROWS_AT + ROW_BYTES * i) bytes = rw (c.place.ensures, c.loop-index.invariant.written) refl in
    let both = length-append done bytes in
    record {
      written = rw (put, placed_more section done bytes i size (omega arith), more) refl;
      size = rw (more, both) (omega arith);
    }
