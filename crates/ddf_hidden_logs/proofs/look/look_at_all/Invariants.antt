use Rattle.std.proofs.Common.{◌≡◌, ◌+◌, ◌*◌, ◌≤◌, length}
use Rattle.ddf_bay.specs.ReadsOnly.{ReadsOnly}
use Rattle.ddf_hidden_logs.proofs.Looking.{IsPartway}
use Rattle.ddf_hidden_logs.proofs.look.look_at_all.Given as goal

abbrev pub invariant-loop-slot : goal.invariant-loop-slot
invariant-loop-slot g l = record {
  end : l.slot-end ≡ length (g.B.Bay.disks l.initial.bay).sizes;
  partway : IsPartway g.B.Bay.tells (g.B.Bay.disks l.initial.bay) (g.B.Bay.disks l.bay) l.slot l.looks.failed.items l.looks.masks.items;
  reads : ReadsOnly (g.B.Bay.disks l.initial.bay) (g.B.Bay.disks l.bay);
  calls : (g.B.Bay.disks l.bay).calls ≤ (g.B.Bay.disks l.initial.bay).calls + 15 * l.slot;
}
