use Rattle.std.proofs.Common.{nat_eq}
use Rattle.std.proofs.lemmas.Cmp.{nat_eq_equiv}
use Rattle.ddf_view.specs.View.{disk_of}
use Rattle.ddf_view.specs.Spares.{member_among}
use Rattle.ddf_view.proofs.Rebuilt.{fresh_row}
use Rattle.ddf_view.proofs.reading.members_among.Goals as goal

pub put_member-requires : goal.put_member-requires
put_member-requires c =
    fresh_row nat_eq nat_eq_equiv disk_of (λ disk. disk.reference) (member_among c.args.all.now) c.args.rows.now c.loop-row.row-index c.row-item.result c.loop-row-test.true
    c.loop-row.members.entries c.loop-row.invariant c.row-item.result c.row-item.is c.requires
