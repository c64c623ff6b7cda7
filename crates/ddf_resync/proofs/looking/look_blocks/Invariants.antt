use Rattle.std.proofs.Common.{◌-◌, ◌≤◌}
use Rattle.ddf_array.specs.Volume.{capacity}
use Rattle.ddf_read.specs.Reading.{OnlyReads}
use Rattle.ddf_resync.proofs.looking.look_blocks.Given as goal

abbrev pub invariant-loop-block : goal.invariant-loop-block
invariant-loop-block g l =
    let B = g.B.Bay in
    record {
      inside : l.block ≤ capacity l.view;
      reads : OnlyReads (B.disks l.fn.bay) (B.disks l.bay);
    }

abbrev pub decreases-loop-block : goal.decreases-loop-block
decreases-loop-block g l = l.capacity - l.block
