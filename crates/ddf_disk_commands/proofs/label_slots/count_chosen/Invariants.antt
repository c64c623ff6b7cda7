use Rattle.std.proofs.Common.{◌≡◌, ◌≤◌, length}
use Rattle.ddf_disk_commands.specs.LabelRefusal.{chosen}
use Rattle.ddf_disk_commands.proofs.label_slots.count_chosen.Given as goal

abbrev pub invariant-loop-slot : goal.invariant-loop-slot
invariant-loop-slot l = record {
  few : l.labelled ≤ l.slot;
  so_far : l.labelled ≡ length (chosen l.slot l.fn.named);
}
