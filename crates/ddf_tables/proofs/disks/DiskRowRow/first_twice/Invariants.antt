use Rattle.std.proofs.Common.{◌≡◌, ℕ, take}
use Rattle.std.specs.BTreeSet.{contains}
use Rattle.std.specs.List.{list_any}
use Rattle.std.specs.Ordering.{nat_cmp}
use Rattle.ddf_tables.specs.Disks.{disk_twice, has_reference}
use Rattle.ddf_tables.specs.Tables.{first_twice}
use Rattle.ddf_tables.proofs.TableRows.{twice_from}
use Rattle.ddf_tables.proofs.disks.DiskRowRow.first_twice.Given as goal

abbrev pub invariant-loop-row : goal.invariant-loop-row
invariant-loop-row l = record {
  left : first_twice disk_twice l.rows ≡ twice_from disk_twice l.rows l.row-index;
  seen : (reference : ℕ) → contains nat_cmp l.seen reference ≡ list_any (has_reference reference) (take l.row-index l.rows);
}
