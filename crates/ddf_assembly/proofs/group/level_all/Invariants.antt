use Rattle.std.proofs.Common.{◌≡◌, fold}
use Rattle.ddf_seats.specs.Seated.{with_level}
use Rattle.ddf_assembly.proofs.group.level_all.Given as goal

abbrev pub invariant-loop-disk : goal.invariant-loop-disk
invariant-loop-disk l = l.newest.items ≡ fold with_level l.initial.newest.items l.yielded
