use Rattle.std.proofs.Common.{◌≡◌}
use Rattle.ddf_disk_commands.specs.LabelRefusal.{chosen}
use Rattle.ddf_disk_commands.proofs.label_slots.chosen.Given as goal

abbrev pub invariant-loop-slot : goal.invariant-loop-slot
invariant-loop-slot l = record {
  so_far : l.slots.items ≡ chosen l.slot l.fn.named;
}
