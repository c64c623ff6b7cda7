use Rattle.std.proofs.Common.{◌+◌, ◌-◌, ◌≤◌, length}
use Rattle.ddf_read.specs.Given.{AreGiven}
use Rattle.ddf_read.specs.Reading.{OnlyReads, Failed, NoneFailed}
use Rattle.ddf_read.specs.Stretches.{HaveCopies, copy_stretches}
use Rattle.ddf_read.proofs.read.read_all.Given as goal

abbrev pub invariant-loop-at : goal.invariant-loop-at
invariant-loop-at g l =
    let B = g.B.Bay in
    let old = B.disks l.fn.bay in
    let now = B.disks l.bay in
    record {
      inside : l.at ≤ length l.fn.out;
      reads : OnlyReads old now;
      given : B.tells → AreGiven (Failed old now) old.held l.view l.start l.at l.out;
      calls : HaveCopies l.view l.start (length l.fn.out) → NoneFailed l.view old now
          → now.calls + copy_stretches l.view (l.start + l.at) (length l.fn.out - l.at) ≤ old.calls + copy_stretches l.view l.start (length l.fn.out);
    }

abbrev pub decreases-loop-at : goal.decreases-loop-at
decreases-loop-at g l = length l.out - l.at
