use Rattle.std.proofs.Common.{◌≡◌, ◌++◌, drop, map, filter_map}
use Rattle.ddf_view.specs.View.{disk_of}
use Rattle.ddf_view.specs.Spares.{member_entry_among}
use Rattle.ddf_view.proofs.reading.members_among.Given as goal

abbrev pub invariant-loop-row : goal.invariant-loop-row
invariant-loop-row l =
    l.members.entries ++ map (member_entry_among l.all) (filter_map disk_of (drop l.row-index l.rows)) ≡ map (member_entry_among l.all) (filter_map disk_of l.rows)
