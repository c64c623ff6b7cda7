use Rattle.std.proofs.Common.{ℕ, ◌+◌, ◌-◌, ◌<◌, ◌≤◌}
use Rattle.ddf_read.specs.Reading.{OnlyReads}
use Rattle.ddf_resync.specs.Agreeing.{CopyAgrees}
use Rattle.ddf_resync.proofs.copies.copies_agree.Given as goal

abbrev pub invariant-loop-at : goal.invariant-loop-at
invariant-loop-at g l =
    let B = g.B.Bay in
    record {
      inside : l.at ≤ l.count;
      reads : OnlyReads (B.disks l.fn.bay) (B.disks l.bay);
      agree : B.tells → (k : ℕ) → k < l.at → CopyAgrees l.view (B.disks l.fn.bay).held l.element l.part l.position (l.sector + k);
    }

abbrev pub decreases-loop-at : goal.decreases-loop-at
decreases-loop-at g l = l.count - l.at
