use Rattle.std.proofs.Common.{◌≡◌, ◌+◌, ◌≤◌, length, take}
use Rattle.std.specs.List.{find}
use Rattle.ddf_bay.specs.ReadsOnly.{ReadsOnly}
use Rattle.ddf_disk_commands.specs.LabelRefusal.{is_anchored}
use Rattle.ddf_disk_commands.specs.Quiet.{IsQuiet}
use Rattle.ddf_disk_commands.proofs.label_slots.first_anchored.Given as goal

abbrev pub invariant-loop-slot : goal.invariant-loop-slot
invariant-loop-slot g l = record {
  end : l.slot-index-end ≡ length l.fn.slots;
  reads : ReadsOnly (g.B.Bay.disks l.initial.bay) (g.B.Bay.disks l.bay);
  calls : (g.B.Bay.disks l.bay).calls ≤ (g.B.Bay.disks l.initial.bay).calls + l.slot-index;
  quiet : IsQuiet (g.B.Bay.disks l.initial.bay) (g.B.Bay.disks l.bay);
  first_is : g.B.Bay.tells → l.first ≡ find (is_anchored (g.B.Bay.disks l.initial.bay).sizes (g.B.Bay.disks l.initial.bay).held) (take l.slot-index l.fn.slots);
}
