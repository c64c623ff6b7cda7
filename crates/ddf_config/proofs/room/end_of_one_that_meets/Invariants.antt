use Rattle.std.proofs.Common.{◌≡◌, false, take}
use Rattle.std.specs.List.{list_any}
use Rattle.ddf_config.specs.Room.{meets}
use Rattle.ddf_config.proofs.room.end_of_one_that_meets.Given as goal

abbrev pub invariant-loop-extent : goal.invariant-loop-extent
invariant-loop-extent l = list_any (meets l.start l.blocks) (take l.extent-index l.taken) ≡ false
