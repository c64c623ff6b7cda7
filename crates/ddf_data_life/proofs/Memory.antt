-- What bays in memory tell.
use Rattle.std.proofs.Common.{ℕ, ◌≤◌, ◌^◌}
use Rattle.std.specs.Prelude.{slice_index}
use Rattle.ddf_bay.specs.LoggedLaws.{left_whole}
use Rattle.ddf_bay.specs.Memory.{disks_of}
use Rattle.ddf_bay.specs.MemoryLaws.{left_counts, left_only, size_small}
use Rattle.ddf_bay.specs.declared.memory.MemoryBay.{MemoryBay}
use Rattle.ddf_history_memory.proofs.Slots.{reads_left}
use Rattle.ddf_data_events.proofs.Bays.{AreBays}

pub bays : AreBays disks_of
bays bay = record {
  held = reads_left bay;
  whole = λ s l bytes left. left_whole bay.clock bay.log.logged.items s l bytes bay.log.whole left.1;
  only_now = λ image left. left_only bay.clock bay.log.logged.items image left;
  counts = λ t image le left. left_counts bay.clock bay.log.logged.items t image le left;
  since = λ t image left. left.0;
}

pub small_sizes : (bay : MemoryBay) (slot : ℕ) → slice_index (disks_of bay).sizes slot ≤ 2 ^ 55
small_sizes bay slot = size_small bay.sizes.items slot bay.small
