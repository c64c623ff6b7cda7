use Rattle.std.proofs.Common.{◌∙◌}
use Rattle.ddf_lemmas.proofs.Lists.{zip_matches}
use Rattle.ddf_view.specs.Differ.{same_disk_row}
use Rattle.ddf_view.proofs.disks.same_disks.Goals as goal

pub returns-then-one-other : goal.returns-then-one-other
returns-then-one-other c = c.each_same_disk.ensures ∙ zip_matches same_disk_row c.args.one.now c.args.other.now c.if-one-other.true
