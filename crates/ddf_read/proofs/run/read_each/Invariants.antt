use Rattle.ddf_read.specs.Given.{AreGiven}
use Rattle.ddf_read.specs.Reading.{OnlyReads, Failed}
use Rattle.ddf_read.proofs.run.read_each.Given as goal

abbrev pub invariant-loop-at : goal.invariant-loop-at
invariant-loop-at g l =
    let B = g.B.Bay in
    record {
      reads : OnlyReads (B.disks l.fn.bay) (B.disks l.bay);
      given : B.tells → AreGiven (Failed (B.disks l.fn.bay) (B.disks l.bay)) (B.disks l.fn.bay).held l.view l.start l.at l.out;
    }
