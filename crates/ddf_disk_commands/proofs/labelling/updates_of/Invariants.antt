use Rattle.std.proofs.Common.{◌≡◌, length, take}
use Rattle.ddf_update.specs.NewCopies.{sizes_of}
use Rattle.ddf_update.specs.Group.{slot_sizes}
use Rattle.ddf_disk_commands.proofs.labelling.updates_of.Given as goal

abbrev pub invariant-loop-slot : goal.invariant-loop-slot
invariant-loop-slot g l = record {
  end : l.slot-index-end ≡ length l.fn.slots;
  so_far : sizes_of l.disks.items ≡ slot_sizes (g.B.Bay.disks l.initial.bay).sizes (take l.slot-index l.fn.slots);
}
