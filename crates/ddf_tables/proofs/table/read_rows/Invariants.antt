use Rattle.std.proofs.Common.{◌≡◌, length}
use Rattle.ddf_tables.specs.declared.layout.TheConstants.{ROWS_AT}
use Rattle.ddf_tables.specs.Tables.{rows_at}
use Rattle.ddf_tables.proofs.table.read_rows.Given as goal

abbrev pub invariant-loop-index : goal.invariant-loop-index
invariant-loop-index g l = record {
  read : l.rows.items ≡ rows_at g.R.Row.row_at l.section ROWS_AT l.index;
  count : length l.rows.items ≡ l.index;
}
