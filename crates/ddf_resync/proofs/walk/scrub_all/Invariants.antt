use Rattle.ddf_read.specs.Reading.{OnlyReads}
use Rattle.ddf_resync.specs.Scrubbing.{AgreeBefore}
use Rattle.ddf_resync.proofs.walk.scrub_all.Given as goal

abbrev pub invariant-loop-element : goal.invariant-loop-element
invariant-loop-element g l =
    let B = g.B.Bay in
    record {
      reads : OnlyReads (B.disks l.fn.bay) (B.disks l.bay);
      agree : B.tells → AgreeBefore l.view (B.disks l.fn.bay).held l.element;
    }
