use Rattle.std.proofs.Common.{◌≡◌, map, take}
use Rattle.ddf_badblocks.specs.Fits.{range_of}
use Rattle.ddf_badblocks.proofs.fitting.ranges_of.Given as goal

abbrev pub invariant-loop-block : goal.invariant-loop-block
invariant-loop-block l = l.ranges.items ≡ map (range_of l.log.first_spare) (take l.block-index l.log.entries)
