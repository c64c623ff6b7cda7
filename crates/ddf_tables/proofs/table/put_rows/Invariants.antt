use Rattle.std.proofs.Common.{◌≡◌, ◌*◌, length, take}
use Rattle.std.specs.List.{flat_map}
use Rattle.ddf_seal.specs.Unread.{placed}
use Rattle.ddf_tables.specs.declared.layout.TheConstants.{ROWS_AT, ROW_BYTES}
use Rattle.ddf_tables.proofs.table.put_rows.Given as goal

abbrev pub invariant-loop-index : goal.invariant-loop-index
invariant-loop-index g l = record {
  written : l.section ≡ placed l.initial.section ROWS_AT (flat_map g.R.Row.row_bytes (take l.index l.rows));
  size : length (flat_map g.R.Row.row_bytes (take l.index l.rows)) ≡ ROW_BYTES * l.index;
}
