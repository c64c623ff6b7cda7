use Rattle.std.proofs.Common.{◌≡◌, filter, take}
use Rattle.ddf_tables.specs.Arrays.{is_used_array}
use Rattle.ddf_moving.proofs.tables.used_arrays.Given as goal

abbrev pub invariant-loop-row : goal.invariant-loop-row
invariant-loop-row l = l.used.items ≡ filter is_used_array (take l.row-index l.rows)
