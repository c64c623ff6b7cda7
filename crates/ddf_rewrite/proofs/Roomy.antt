-- A change or a recovery for which a disk has room gives it a copy that can be written.
use Rattle.std.proofs.Common.{◌≡◌, ℕ, ◌<◌, ◌≤◌, ◌^◌, Bool, true, false, ◌||◌, ltb, List, [], ◌∷◌, length, None, arith}
use Rattle.std.proofs.lemmas.Bool.{ltb-false, or_parts}
use Rattle.std.specs.Prelude.{slice_get, Some}
use Rattle.ddf_bytes.specs.Choices.{when}
use Rattle.ddf_bytes.proofs.Nones.{none_first, none_when}
use Rattle.ddf_config.specs.declared.refusal.FullTable.TheVariants as tables
use Rattle.ddf_config.specs.Configuration.{Configuration}
use Rattle.ddf_config.specs.Shapes.{array_capacity}
use Rattle.ddf_copy.specs.declared.copy.DiskCopy.{DiskCopy}
use Rattle.ddf_copy.specs.Written.{CanBeCopy}
use Rattle.ddf_rewrite.specs.Before.{Before, leading_record}
use Rattle.ddf_rewrite.specs.Changing.{CanChange}
use Rattle.ddf_rewrite.specs.Copies.{changed_copy, changed_holdings, items_of, slotted_on, recovered_holdings}
use Rattle.ddf_rewrite.specs.Hold.{AreDisks, AreHeld, CanBeRecovered, CanWrite, IsHoldable}
use Rattle.ddf_rewrite.specs.Notes.{Holding}
use Rattle.ddf_rewrite.specs.Room.{full_after_change, full_after_recovery, full_with, lacks_entries, lacks_notes, lacks_places, lacks_slots}
use Rattle.ddf_rewrite.specs.Spares.{spare_use}
use Rattle.ddf_rewrite.specs.Wanted.{Wanted, all_wanted}
use Rattle.ddf_rewrite.proofs.Writable.{changed_copy_can}

-- ---- a disk that has room

pub record HasAllRoom (old : DiskCopy) (noted : Bool) (config : Configuration) (holdings : List Holding) (lacks : Bool) : Type 0 where
  pub disks : length config.members ≤ length old.disks.rows
  pub arrays : length config.arrays ≤ length old.arrays.rows
  pub records : length (items_of noted (spare_use config old.disk_data.reference) holdings) ≤ length (slotted_on old noted config holdings)
  pub entries : lacks_entries old config ≡ false
  pub notes_room : lacks_notes old noted ≡ false
  pub places : lacks ≡ false

-- Where no table is full there is room in each.
pub all_room : (old : DiskCopy) (noted : Bool) (config : Configuration) (holdings : List Holding) (lacks : Bool) → CanBeCopy old → full_with old noted config holdings lacks ≡ None → HasAllRoom old noted config holdings lacks
all_room old noted config holdings lacks is none =
    let use_as = spare_use config old.disk_data.reference in
    let all = none_first (
    when (ltb old.header.geometry.max_disks (length config.members)) tables.Disks
    ∷ when (ltb old.header.geometry.max_arrays (length config.arrays)) tables.Arrays
    ∷ when (lacks_slots old noted config holdings || lacks_entries old config) tables.Records
    ∷ when (lacks_notes old noted) tables.Notes
    ∷ when lacks tables.Spares
    ∷ []) none in
    let few_disks = ltb-false old.header.geometry.max_disks (length config.members) (none_when (ltb old.header.geometry.max_disks (length config.members)) tables.Disks all.0) in
    let few_arrays = ltb-false old.header.geometry.max_arrays (length config.arrays) (none_when (ltb old.header.geometry.max_arrays (length config.arrays)) tables.Arrays all.1.0) in
    let slots = or_parts (lacks_slots old noted config holdings) (lacks_entries old config) (none_when (lacks_slots old noted config holdings || lacks_entries old config) tables.Records all.1.1.0) in
    let disk_rows = is.disks_can.has_rows in
    let array_rows = is.arrays_can.has_rows in
    record {
      disks = omega (arith, few_disks, disk_rows);
      arrays = omega (arith, few_arrays, array_rows);
      records = ltb-false (length (slotted_on old noted config holdings)) (length (items_of noted use_as holdings)) slots.0;
      entries = slots.1;
      notes_room = none_when (lacks_notes old noted) tables.Notes all.1.1.1.0;
      places = none_when lacks tables.Spares all.1.1.1.1.0;
    }

-- ---- a change that isn't refused for want of room

pub room_from_none : (old : DiskCopy) (leaders : Before) (config : Configuration) (timestamp : ℕ) → CanBeCopy old → full_after_change old leaders config timestamp ≡ None
    → HasAllRoom old true config (changed_holdings old leaders config timestamp) (lacks_places leaders config)
unfolding full_after_change
room_from_none old leaders config timestamp is none = all_room old true config (changed_holdings old leaders config timestamp) (lacks_places leaders config) is none

pub change_can : (old : DiskCopy) (leaders : Before) (config : Configuration) (timestamp : ℕ) → CanBeCopy old → IsHoldable old.header.geometry.max_members config → full_after_change old leaders config timestamp ≡ None
    → CanChange old leaders config timestamp
change_can old leaders config timestamp is can none =
    let room = room_from_none old leaders config timestamp is none in
    record { names = can.names; readable = can.readable; rebuilt = can.rebuilt; spares = can.spares; room = record { disks = room.disks; arrays = room.arrays; records = room.records }; places = room.places }

pub write_can : (old : DiskCopy) (leaders : Before) (config : Configuration) (timestamp : ℕ) → CanBeCopy old → IsHoldable old.header.geometry.max_members config → AreHeld old.header.geometry leaders → timestamp < 2 ^ 32
    → ((n : ℕ) (wanted : Wanted) → slice_get (all_wanted config) n ≡ Some wanted → leading_record leaders wanted.guid wanted.index ≡ None → array_capacity wanted.array < 2 ^ 64) → full_after_change old leaders config timestamp ≡ None
    → CanWrite old leaders config timestamp
write_can old leaders config timestamp is can held time capacities none =
    let room = room_from_none old leaders config timestamp is none in
    record { config_can = can.can_hold; leaders_can = held; timestamp_fits = time; capacities_fit = capacities; notes_fit = room.notes_room; entries_fit = room.entries }

-- A change of a configuration that can be held, for which a disk has room, gives it a copy that can be written.
pub roomy_change_can : (old : DiskCopy) (leaders : Before) (config : Configuration) (timestamp : ℕ) → CanBeCopy old → IsHoldable old.header.geometry.max_members config → AreHeld old.header.geometry leaders → timestamp < 2 ^ 32
    → ((n : ℕ) (wanted : Wanted) → slice_get (all_wanted config) n ≡ Some wanted → leading_record leaders wanted.guid wanted.index ≡ None → array_capacity wanted.array < 2 ^ 64) → full_after_change old leaders config timestamp ≡ None
    → CanBeCopy (changed_copy old leaders config timestamp)
roomy_change_can old leaders config timestamp is can held time capacities none =
    changed_copy_can old leaders config timestamp is (change_can old leaders config timestamp is can none) (write_can old leaders config timestamp is can held time capacities none)

-- ---- a recovery

pub recovery_room : (old : DiskCopy) (leaders : Before) (config : Configuration) → CanBeCopy old → full_after_recovery old leaders config ≡ None
    → HasAllRoom old leaders.noted config (recovered_holdings old leaders config) false
unfolding full_after_recovery
recovery_room old leaders config is none = all_room old leaders.noted config (recovered_holdings old leaders config) false is none

-- All that is asked of a recovery holds of a configuration that can be held, for which a disk has room.
pub recovery_can : (old : DiskCopy) (leaders : Before) (config : Configuration) (timestamp : ℕ) → CanBeCopy old → IsHoldable old.header.geometry.max_members config → AreHeld old.header.geometry leaders
    → AreDisks leaders.disks → length leaders.disks ≤ length config.members → timestamp < 2 ^ 32 → full_after_recovery old leaders config ≡ None
    → CanBeRecovered old leaders config timestamp
recovery_can old leaders config timestamp is can held disks many time none =
    let room = recovery_room old leaders config is none in
    let fit = room.disks in
    record {
      names = can.names;
      spares = can.spares;
      config_can = can.can_hold;
      leaders_can = held;
      disks_can = disks;
      timestamp_fits = time;
      disks_fit = omega (arith, fit, many);
      arrays_fit = room.arrays;
      records_fit = room.records;
      notes_fit = room.notes_room;
      entries_fit = room.entries;
    }
