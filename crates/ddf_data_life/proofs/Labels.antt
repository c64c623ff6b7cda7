-- A label of all disks of a bay in memory begins a history of the new group and of its data.
use Rattle.std.proofs.Common.{◌≡◌, ℕ, Bool, true, List, [], length, Ok, refl, sym, ap, subst, arith}
use Rattle.ddf_bytes.specs.declared.stamp.Stamp.{Stamp}
use Rattle.ddf_header.specs.declared.kind.Revision.{Revision}
use Rattle.ddf_bay.specs.Memory.{disks_of}
use Rattle.ddf_bay.specs.declared.memory.MemoryBay.{MemoryBay}
use Rattle.ddf_config.specs.Configuration.{Configuration}
use Rattle.ddf_copy.specs.declared.copy.DiskCopy.{DiskCopy}
use Rattle.ddf_update.specs.NewCopies.{group_of as name_of}
use Rattle.ddf_history.specs.Groups.{groups, has_current}
use Rattle.ddf_history.specs.Issued.{Past}
use Rattle.ddf_history_steps.specs.Founding.{founding_config}
use Rattle.ddf_history_steps.specs.Kept.{AreAllKept, is_slot}
use Rattle.ddf_history_steps.proofs.Founding.{founded_since}
use Rattle.ddf_answer.specs.Call.{work_of}
use Rattle.ddf_disk_commands.specs.Label.{IsTried, label_copy, label_slots}
use Rattle.ddf_disk_commands.specs.LabelRefusal.{label_layout}
use Rattle.ddf_disk_commands.proofs.Chosen.{chosen_once}
use Rattle.ddf_history_memory.proofs.Slots.{reads_left}
use Rattle.ddf_history_life.proofs.Labels as labels
use Rattle.ddf_data_events.specs.Beginnings.{Begins}
use Rattle.ddf_data_events.proofs.Beginning.{all_in, founded_begins}
use Rattle.ddf_data_life.specs.Histories.{IsDataBegun}
use Rattle.ddf_data_life.proofs.Memory.{bays, small_sizes}

module _ (large : Bool) (revision : Revision) (stamp : Stamp) (old new : MemoryBay)
    (tried : IsTried (work_of (Unit {0}) (disks_of old) (disks_of new)) large revision stamp [] (Ok tt)) (same_sizes : (disks_of new).sizes ≡ (disks_of old).sizes)
    (told : (disks_of old).tells_left) (told_new : (disks_of new).tells_left) where
  abbrev sizes : List ℕ
  sizes = (disks_of old).sizes

  abbrev slots : List ℕ
  slots = label_slots sizes []

  abbrev copy : ℕ → DiskCopy
  copy = label_copy large revision stamp sizes []

  abbrev first : Past (groups (name_of stamp))
  first = labels.begins (name_of stamp) sizes copy

  kept : AreAllKept (name_of stamp) first (disks_of new)
  kept =
      founded_since (label_layout large sizes []) revision stamp (disks_of old) (disks_of new) same_sizes slots (chosen_once sizes []) (tried tt).1 first (labels.is_new (name_of stamp) sizes copy)
      (reads_left old told) (λ image left. labels.names_new sizes (name_of stamp) copy image)

  starts : Begins (name_of stamp) disks_of first new
  starts =
      founded_begins disks_of bays small_sizes (name_of stamp) first new told_new sizes slots same_sizes copy (is_slot slots) (labels.is_new (name_of stamp) sizes copy)
      (λ image left. all_in (disks_of old) (disks_of new) slots copy (tried tt).1 image left) kept

  pub label_begins : IsDataBegun (name_of stamp) (length (disks_of old).sizes) (label_copy large revision stamp (disks_of old).sizes []) new
  label_begins = record {
    past = first;
    floor = starts.floor;
    small = starts.small;
    history = record {
      history = record { kept = kept; same_slots = sym (ap length same_sizes); own = omega arith; lost_gone = λ slot there lost. absurd cc };
      keeps = starts.keeps;
    };
    issued_is = refl;
    acked_is = refl;
    lost_none = λ slot. refl;
    returned_none = λ slot. refl;
    names = λ slot low. labels.named_in (name_of stamp) sizes copy slot low;
    members = λ slot low number config since.
        let same = labels.only_one (founding_config copy) config number since.is_there in
        subst (λ (one : Configuration). has_current one (first.disk slot) ≡ true) same (labels.listed large revision stamp old new tried same_sizes told slot low);
  }
