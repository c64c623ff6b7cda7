use Rattle.std.proofs.Common.{◌≡◌, ◌+◌, ◌*◌, ◌≤◌, ℕ, length}
use Rattle.ddf_bay.specs.ReadsOnly.{ReadsOnly}
use Rattle.ddf_assembly.specs.Reading.{AreNewest, HaveAnchors}
use Rattle.ddf_assembly.specs.Held.{StandUnder}
use Rattle.ddf_assembly.specs.Slots.{LeaveNone}
use Rattle.ddf_assembly.proofs.Partway.{IsPartway}
use Rattle.ddf_assembly.proofs.reading.read_slots.Given as goal

abbrev pub invariant-loop-slot : goal.invariant-loop-slot
invariant-loop-slot g l = record {
  end : l.slot-end ≡ length (g.B.Bay.disks l.initial.bay).sizes;
  partway : IsPartway g.B.Bay.tells (g.B.Bay.disks l.initial.bay) (g.B.Bay.disks l.bay) l.slot l.all.left_out.items l.all.newest.items;
  none : LeaveNone l.all.left_out.items l.all.newest.items;
  reads : ReadsOnly (g.B.Bay.disks l.initial.bay) (g.B.Bay.disks l.bay);
  writable : AreNewest l.all.newest.items;
  never_falls : (slot : ℕ) → (g.B.Bay.disks l.initial.bay).failed_reads slot ≤ (g.B.Bay.disks l.bay).failed_reads slot;
  writes_never_fall : (slot : ℕ) → (g.B.Bay.disks l.initial.bay).failed_writes slot ≤ (g.B.Bay.disks l.bay).failed_writes slot;
  counted : length l.all.newest.items ≡ l.slot;
  calls : (g.B.Bay.disks l.bay).calls ≤ (g.B.Bay.disks l.initial.bay).calls + 15 * l.slot;
  under : HaveAnchors (g.B.Bay.disks l.initial.bay).sizes l.all.newest.items;
  stand : g.B.Bay.tells → StandUnder (g.B.Bay.disks l.initial.bay) l.all.newest.items;
}
