use Rattle.std.proofs.Common.{◌≡◌, ℕ, take}
use Rattle.ddf_bay.specs.Moments.{SpendsOver, StopsLeave}
use Rattle.ddf_update.specs.Changes.{AreChanged, IsLeftChangingAll, MayChangeAll, SlotChange}
use Rattle.ddf_update.specs.Prepared.{all_calls, all_sectors}
use Rattle.ddf_update.proofs.changes.write_disks.Given as goal

abbrev pub invariant-loop-place : goal.invariant-loop-place
invariant-loop-place g l = record {
  any_moment : g.B.Bay.tells → (seat : ℕ → SlotChange) → MayChangeAll (g.B.Bay.disks l.initial.bay) l.slots seat l.updates
      → StopsLeave (g.B.Bay.disks l.initial.bay) (g.B.Bay.disks l.bay) (IsLeftChangingAll (g.B.Bay.disks l.initial.bay) l.slots seat l.updates);
  changed : g.B.Bay.tells → (seat : ℕ → SlotChange) → MayChangeAll (g.B.Bay.disks l.initial.bay) l.slots seat l.updates
      → AreChanged (g.B.Bay.disks l.initial.bay) (g.B.Bay.disks l.bay) l.slots seat l.updates l.place;
  spends : SpendsOver (g.B.Bay.disks l.initial.bay) (g.B.Bay.disks l.bay) (all_sectors (take l.place l.updates)) (all_calls (take l.place l.updates));
  reads : (g.B.Bay.disks l.bay).failed_reads ≡ (g.B.Bay.disks l.initial.bay).failed_reads;
  writes : (g.B.Bay.disks l.bay).failed_writes ≡ (g.B.Bay.disks l.initial.bay).failed_writes;
}
