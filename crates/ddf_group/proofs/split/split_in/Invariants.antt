use Rattle.std.proofs.Common.{◌≡◌, drop}
use Rattle.ddf_group.specs.Pairs.{first_with}
use Rattle.ddf_group.specs.Conflicts.{split_from}
use Rattle.ddf_group.proofs.split.split_in.Given as goal

abbrev pub invariant-loop-leader : goal.invariant-loop-leader
invariant-loop-leader l = first_with (split_from l.slots l.group) (drop l.leader-index l.leading) ≡ first_with (split_from l.slots l.group) l.leading
