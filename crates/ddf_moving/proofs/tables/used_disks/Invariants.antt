use Rattle.std.proofs.Common.{◌≡◌, filter, take}
use Rattle.ddf_tables.specs.Disks.{is_used_disk}
use Rattle.ddf_moving.proofs.tables.used_disks.Given as goal

abbrev pub invariant-loop-row : goal.invariant-loop-row
invariant-loop-row l = l.used.items ≡ filter is_used_disk (take l.row-index l.rows)
