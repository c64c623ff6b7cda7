use Rattle.std.proofs.Common.{◌≡◌, ◌+◌, ◌*◌, ◌≤◌, replicate, refl}
use Rattle.ddf_tables.specs.declared.layout.TheConstants.{ROWS_AT, ROW_BYTES}
use Rattle.ddf_tables.proofs.TableValues.{rows_at_replicate}
use Rattle.ddf_tables.proofs.table.Table.blank.Goals as goal

pub returns : goal.returns
returns g c =
    let size = 512 * c.args.sectors in
    let room : ROWS_AT + ROW_BYTES * c.args.max ≤ size = c.requires.room in
    let full : c.in_ok-rest.rest.items ≡ replicate size 255 = c.in_ok-rest.ensures.items_if_clones_equal (λ y e. e) in
    rw (c.clear_table.ensures.rest, c.in_ok-rows.ensures.rows, c.as_slice.ensures.value, full, rows_at_replicate g.R.Row.row_at size ROWS_AT c.args.max room) refl
