use Rattle.std.proofs.Common.{◌∙◌, sym}
use Rattle.ddf_view.proofs.Rows.{no_disk_differs}
use Rattle.ddf_view.proofs.disks.least_disk.Goals as goal

pub returns-then-same_disks : goal.returns-then-same_disks
returns-then-same_disks c = sym (no_disk_differs c.args.one.now c.args.other.now (sym c.same_disks.ensures ∙ c.if-same_disks.true))
