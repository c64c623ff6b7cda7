use Rattle.std.proofs.Common.{◌≡◌, ℕ, List, take}
use Rattle.std.specs.BTreeSet.{contains}
use Rattle.std.specs.Cmp.Lexicographic.{slice_cmp}
use Rattle.std.specs.List.{list_any}
use Rattle.std.specs.Ordering.{nat_cmp}
use Rattle.ddf_tables.specs.Arrays.{array_twice, has_guid}
use Rattle.ddf_tables.specs.Tables.{first_twice}
use Rattle.ddf_tables.proofs.TableRows.{twice_from}
use Rattle.ddf_tables.proofs.arrays.ArrayRowRow.first_twice.Given as goal

abbrev pub invariant-loop-row : goal.invariant-loop-row
invariant-loop-row l = record {
  left : first_twice array_twice l.rows ≡ twice_from array_twice l.rows l.row-index;
  seen : (guid : List ℕ) → contains (slice_cmp nat_cmp) l.seen guid ≡ list_any (has_guid guid) (take l.row-index l.rows);
}
