use Rattle.std.proofs.Common.{◌≡◌, ℕ, ◌+◌, ◌*◌, ◌-◌, ◌∙◌, refl, ap, length, arith}
use Rattle.ddf_bytes.specs.Bytes.{bytes_at}
use Rattle.ddf_tables.specs.declared.layout.TheConstants.{ROWS_AT, ROW_BYTES}
use Rattle.ddf_tables.specs.Places.{each_at}
use Rattle.ddf_tables.specs.Tables.{rows_at}
use Rattle.ddf_tables.proofs.Parts.{each_at_more, length-each_at}
use Rattle.ddf_tables.proofs.table.read_rows.Goals as goal

pub loop-index-init : goal.loop-index-init
unfolding each_at
loop-index-init g c = record { read = c.in_ok-rows.ensures.items; count = ap length c.in_ok-rows.ensures.items }

pub loop-index-preserved : goal.loop-index-preserved
loop-index-preserved g c =
    let i = c.loop-index.index in
    let section = c.args.section.now in
    let row = λ (place : ℕ). g.R.Row.row_at (bytes_at section place ROW_BYTES) in
    let more = each_at_more row ROW_BYTES ROWS_AT i (ROWS_AT + ROW_BYTES * i) refl in
    let wide : ROWS_AT + ROW_BYTES * i + ROW_BYTES - (ROWS_AT + ROW_BYTES * i) ≡ ROW_BYTES = omega arith in
    let read : c.push.new.self.items ≡ rows_at g.R.Row.row_at section ROWS_AT (i + 1) = rw (c.in_ok-push.ensures.items, c.loop-index.invariant.read, c.read.ensures, wide, more) refl in
    record { read = read; count = ap length read ∙ length-each_at row ROW_BYTES ROWS_AT (i + 1) }
