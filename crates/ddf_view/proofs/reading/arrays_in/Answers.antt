use Rattle.std.specs.Str.{bytes_eq}
use Rattle.std.specs.Cmp.Lexicographic.{nat_list_eq_equiv}
use Rattle.ddf_view.specs.View.{array_of}
use Rattle.ddf_view.specs.Reading.{array_in, disks_in, elements_in}
use Rattle.ddf_view.proofs.Rebuilt.{fresh_row}
use Rattle.ddf_view.proofs.reading.arrays_in.Goals as goal

pub put_array-requires : goal.put_array-requires
put_array-requires c =
    fresh_row bytes_eq nat_list_eq_equiv array_of (λ entry. entry.guid) (array_in (disks_in c.args.views.now) (elements_in c.args.views.now)) c.args.rows.now c.loop-row.row-index c.row-item.result
    c.loop-row-test.true c.loop-row.arrays.entries c.loop-row.invariant c.row-item.result c.row-item.is c.requires
