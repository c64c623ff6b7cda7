use Rattle.std.proofs.Common.{◌≡◌, filter, take}
use Rattle.ddf_seats.specs.Leading.{leads}
use Rattle.ddf_seats.specs.Seated.{views_in}
use Rattle.ddf_steps.proofs.leading.leading_views.Given as goal

abbrev pub invariant-loop-disk : goal.invariant-loop-disk
invariant-loop-disk l = l.views.items ≡ views_in (filter (leads l.config) (take l.disk-index l.disks))
