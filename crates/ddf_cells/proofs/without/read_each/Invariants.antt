use Rattle.ddf_read.specs.Reading.{OnlyReads, Failed}
use Rattle.ddf_cells.specs.Without.{AreGivenWithout}
use Rattle.ddf_cells.proofs.without.read_each.Given as goal

abbrev pub invariant-loop-at : goal.invariant-loop-at
invariant-loop-at g l =
    let B = g.B.Bay in
    record {
      reads : OnlyReads (B.disks l.fn.bay) (B.disks l.bay);
      given : B.tells → AreGivenWithout (Failed (B.disks l.fn.bay) (B.disks l.bay)) (B.disks l.fn.bay).held l.marked l.part l.position l.sector l.out l.at;
    }
