use Rattle.std.proofs.Common.{◌≡◌, drop, filter_map}
use Rattle.ddf_view.specs.View.{disk_of}
use Rattle.ddf_view.proofs.showing.first_disk.Given as goal

abbrev pub invariant-loop-index : goal.invariant-loop-index
invariant-loop-index l = filter_map disk_of (drop l.index l.rows) ≡ filter_map disk_of l.rows
