use Rattle.std.proofs.Common.{◌≡◌}
use Rattle.ddf_bay.specs.Moments.{Keeps, SpendsOver, StopsLeave}
use Rattle.ddf_bay.specs.Sectors.{IsLeft}
use Rattle.ddf_steps.specs.Committed.{AreSettled}
use Rattle.ddf_steps.proofs.writing.sync_seats.Given as goal

abbrev pub invariant-loop-seat : goal.invariant-loop-seat
invariant-loop-seat g l = record {
  settled : AreSettled (g.B.Bay.disks l.bay) l.seats l.seat-index;
  held : (g.B.Bay.disks l.bay).held ≡ (g.B.Bay.disks l.initial.bay).held;
  left : Keeps (g.B.Bay.disks l.initial.bay).may_hold (g.B.Bay.disks l.bay).may_hold;
  any_moment : StopsLeave (g.B.Bay.disks l.initial.bay) (g.B.Bay.disks l.bay) (IsLeft (g.B.Bay.disks l.initial.bay).may_hold);
  reads : (g.B.Bay.disks l.bay).failed_reads ≡ (g.B.Bay.disks l.initial.bay).failed_reads;
  spends : SpendsOver (g.B.Bay.disks l.initial.bay) (g.B.Bay.disks l.bay) 0 l.seat-index;
  writes : (g.B.Bay.disks l.bay).failed_writes ≡ (g.B.Bay.disks l.initial.bay).failed_writes;
}
