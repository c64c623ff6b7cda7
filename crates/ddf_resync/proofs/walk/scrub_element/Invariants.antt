use Rattle.std.proofs.Common.{ℕ, ◌-◌, ◌<◌, ◌≤◌}
use Rattle.ddf_read.specs.Reading.{OnlyReads}
use Rattle.ddf_resync.specs.Agreeing.{Agrees}
use Rattle.ddf_resync.proofs.walk.scrub_element.Given as goal

abbrev pub invariant-loop-sector : goal.invariant-loop-sector
invariant-loop-sector g l =
    let B = g.B.Bay in
    record {
      inside : l.sector ≤ l.depth;
      reads : OnlyReads (B.disks l.fn.bay) (B.disks l.bay);
      agree : B.tells → (s : ℕ) → s < l.sector → Agrees l.view (B.disks l.fn.bay).held l.element l.part s;
    }

abbrev pub decreases-loop-sector : goal.decreases-loop-sector
decreases-loop-sector g l = l.depth - l.sector
