use Rattle.std.proofs.Common.{◌-◌, ◌≤◌}
use Rattle.ddf_primary.specs.Cells.{depth_of}
use Rattle.ddf_read.specs.Reading.{OnlyReads}
use Rattle.ddf_resync.proofs.looking.look_element.Given as goal

abbrev pub invariant-loop-sector : goal.invariant-loop-sector
invariant-loop-sector g l =
    let B = g.B.Bay in
    record {
      inside : l.sector ≤ depth_of l.part.shape;
      reads : OnlyReads (B.disks l.fn.bay) (B.disks l.bay);
    }

abbrev pub decreases-loop-sector : goal.decreases-loop-sector
decreases-loop-sector g l = l.depth - l.sector
