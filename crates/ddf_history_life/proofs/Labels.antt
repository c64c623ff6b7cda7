-- A label of all disks of a bay in memory begins a history: there is one that is told of, and the names are new.
use Rattle.std.proofs.Common.{◌≡◌, ◌∙◌, ℕ, zero, suc, ◌+◌, ◌<◌, ◌≤◌, ◌==◌, Bool, true, false, List, [], ◌∷◌, length, Some, Ok, if◌then◌else◌, refl, sym, ap, subst, inl, inr, ◌⊎◌, arith}
use Rattle.std.proofs.lemmas.Bool.{cases_lt, false_from_ne_true, lt-ltb, ltb-true, eq-eqb}
use Rattle.std.specs.Prelude.{nat_lt, slice_get}
use Rattle.std.specs.List.{list_any, range_with_len}
use Rattle.ddf_lemmas.proofs.Lists.{range_get}
use Rattle.ddf_bytes.specs.declared.stamp.Stamp.{Stamp}
use Rattle.ddf_header.specs.declared.kind.Revision.{Revision}
use Rattle.ddf_bay.specs.Memory.{disks_of}
use Rattle.ddf_bay.specs.Sectors.{Image}
use Rattle.ddf_bay.specs.declared.memory.MemoryBay.{MemoryBay}
use Rattle.ddf_config.specs.Configuration.{Configuration}
use Rattle.ddf_copy.specs.declared.copy.DiskCopy.{DiskCopy}
use Rattle.ddf_update.specs.NewCopies.{group_of as name_of}
use Rattle.ddf_view.specs.View.{View, view_of}
use Rattle.ddf_history.specs.Groups.{Disk, disk_of, groups, has_current}
use Rattle.ddf_history.specs.Issued.{Past}
use Rattle.ddf_history.specs.Reading.{IsCopyOf}
use Rattle.ddf_history.specs.Scenes.{scene_of}
use Rattle.ddf_history_steps.specs.Founding.{AreNamesNew, IsNewGroup, founding_config}
use Rattle.ddf_history_steps.specs.Kept.{is_slot}
use Rattle.ddf_history_steps.proofs.FoundedMember.{all_founded, founded_listed}
use Rattle.ddf_history_steps.proofs.Founding.{founded_since}
use Rattle.ddf_answer.specs.Call.{work_of}
use Rattle.ddf_disk_commands.specs.Label.{IsTried, label_copy, label_slots}
use Rattle.ddf_disk_commands.specs.LabelRefusal.{label_layout}
use Rattle.ddf_disk_commands.proofs.Chosen.{chosen_once}
use Rattle.ddf_disk_commands.proofs.Common.{all_chosen}
use Rattle.ddf_history_memory.proofs.Slots.{reads_left}
use Rattle.ddf_history_memory.proofs.Strangers.{strange, stranger}
use Rattle.ddf_history_life.specs.Commands.{IsBegun}

-- ---- all slots

cases_le : (a b : ℕ) → a ≤ b → (a ≡ b) ⊎ (a < b)
cases_le a b le = elim (cases_lt a b) [
  | inl less ↦ inr less
  | inr more ↦ inl (omega (arith, le, more))
]

found_by : (a n slot : ℕ) → a ≤ slot → (a + 1 ≤ slot → list_any (λ other. other == slot) (range_with_len (a + 1) n) ≡ true)
    → (b : Bool) → (a == slot) ≡ b → list_any (λ other. other == slot) (range_with_len a (suc n)) ≡ true
found_by a n slot from rest true here = rw here refl
found_by a n slot from rest false other = rw other (rest (later (cases_le a slot from)))
  where
    later : (a ≡ slot) ⊎ (a < slot) → a + 1 ≤ slot
    later (inl same) = (let is = eq-eqb a slot same in absurd cc)
    later (inr less) = omega (arith, less)

found_in : (a n slot : ℕ) → a ≤ slot → slot < a + n → list_any (λ other. other == slot) (range_with_len a n) ≡ true
found_in a zero slot from to = absurd (omega (arith, from, to))
found_in a (suc n) slot from to = found_by a n slot from (λ up. found_in (a + 1) n slot up (omega (arith, to))) (a == slot) refl

module _ (sizes : List ℕ) where
  slots_are : label_slots sizes [] ≡ range_with_len 0 (length sizes)
  slots_are = all_chosen 0 (length sizes)

  pub slot_there : (slot : ℕ) → slot < length sizes → is_slot (label_slots sizes []) slot ≡ true
  slot_there slot low = ap (λ (slots : List ℕ). is_slot slots slot) slots_are ∙ found_in 0 (length sizes) slot (omega arith) (omega (arith, low))

  beyond : (slot : ℕ) → is_slot (label_slots sizes []) slot ≡ false → nat_lt slot (length sizes) ≡ false
  beyond slot out = false_from_ne_true (nat_lt slot (length sizes)) (λ low. let is = slot_there slot (ltb-true slot (length sizes) low) in absurd cc)

  -- beyond the last slot nothing is shown
  none_shown : (image : Image) (slot : ℕ) (other : View) → is_slot (label_slots sizes []) slot ≡ false → IsCopyOf (scene_of sizes image slot) other → ⊥
  none_shown image slot other out is = rw (beyond slot out) at is

  pub names_new : (group : List ℕ) (copy : ℕ → DiskCopy) (image : Image) → AreNamesNew group (is_slot (label_slots sizes [])) copy (scene_of sizes image)
  names_new group copy image = record {
    shows_none = λ slot other out is stands. none_shown image slot other out is;
    names_none = λ slot other out is names. none_shown image slot other out is;
  }

-- ---- the beginning

module _ (group : List ℕ) (sizes : List ℕ) (copy : ℕ → DiskCopy) where
  abbrev disk_in : ℕ → Disk
  disk_in slot = if nat_lt slot (length sizes) then disk_of (view_of (copy slot)) else stranger (founding_config copy)

  abbrev pub begins : Past (groups group)
  begins = record {
    changes = record { issued = founding_config copy ∷ []; acked = 0; own_from = 0 };
    slots = length sizes;
    disk = disk_in;
    lost = λ slot. false;
    returned = λ slot. false;
  }

  pub named_in : (slot : ℕ) → slot < length sizes → disk_in slot ≡ disk_of (view_of (copy slot))
  named_in slot low = ap (λ (here : Bool). if here then disk_of (view_of (copy slot)) else stranger (founding_config copy)) (lt-ltb slot (length sizes) low)

  pub is_new : IsNewGroup group begins sizes (label_slots sizes []) copy (is_slot (label_slots sizes []))
  is_new = record {
    issued_is = refl;
    acked_is = refl;
    own = refl;
    lost_none = λ slot. refl;
    returned_none = λ slot. refl;
    same_slots = refl;
    names = λ place slot at founded.
        let there = range_get 0 (length sizes) place slot (subst (λ (slots : List ℕ). slice_get slots place ≡ Some slot) (slots_are sizes) at) in
        let same : slot ≡ place = (let is = there.0 in omega (arith, is)) in
        let low : slot < length sizes = (let is = there.1 in omega (arith, same, is)) in
        named_in slot low ∙ ap (λ (k : ℕ). disk_of (view_of (copy k))) same;
    no_member = λ slot out. rw (beyond sizes slot out) (strange (founding_config copy));
  }

-- The founding configuration is the only one.
pub only_one : {C : Type 0} (first config : C) (number : ℕ) → slice_get (first ∷ []) number ≡ Some config → first ≡ config
only_one first config zero at = cc
only_one first config (suc number) at = absurd cc

module _ (large : Bool) (revision : Revision) (stamp : Stamp) (old new : MemoryBay)
    (tried : IsTried (work_of (Unit {0}) (disks_of old) (disks_of new)) large revision stamp [] (Ok tt)) (same_sizes : (disks_of new).sizes ≡ (disks_of old).sizes)
    (told : (disks_of old).tells_left) where
  abbrev sizes : List ℕ
  sizes = (disks_of old).sizes

  abbrev slots : List ℕ
  slots = label_slots sizes []

  abbrev copy : ℕ → DiskCopy
  copy = label_copy large revision stamp sizes []

  abbrev first : Past (groups (name_of stamp))
  first = begins (name_of stamp) sizes copy

  new_group : IsNewGroup (name_of stamp) first sizes slots copy (is_slot slots)
  new_group = is_new (name_of stamp) sizes copy

  pub listed : (slot : ℕ) → slot < length sizes → has_current (founding_config copy) (first.disk slot) ≡ true
  listed slot low =
      founded_listed (label_layout large sizes []) revision stamp sizes slots (chosen_once sizes []) (disks_of new).held (is_slot slots)
      (all_founded (disks_of old) (disks_of new) slots copy (tried tt).1) first new_group (λ one. true) slot (slot_there sizes slot low)

  pub label_begins : IsBegun (name_of stamp) (length sizes) copy new
  label_begins = record {
    past = first;
    history = record {
      kept =
          founded_since (label_layout large sizes []) revision stamp (disks_of old) (disks_of new) same_sizes slots (chosen_once sizes []) (tried tt).1 first new_group
          (reads_left old told) (λ image left. names_new sizes (name_of stamp) copy image);
      same_slots = sym (ap length same_sizes);
      own = omega arith;
      lost_gone = λ slot there lost. absurd cc;
    };
    issued_is = refl;
    acked_is = refl;
    lost_none = λ slot. refl;
    returned_none = λ slot. refl;
    names = λ slot low. named_in (name_of stamp) sizes copy slot low;
    members = λ slot low number config since.
        let same = only_one (founding_config copy) config number since.is_there in
        subst (λ (one : Configuration). has_current one (first.disk slot) ≡ true) same (listed slot low);
  }
