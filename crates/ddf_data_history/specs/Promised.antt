-- What the data of a group's arrays keep, over its history.
use Rattle.std.specs.Prelude.{◌≡◌, ◌≢◌, ℕ, ◌<◌, Bool, true, not, ◌&&◌, List, Option, Some, None, filter_map, if◌then◌else◌}
use Rattle.std.specs.Map.{lookup}
use Rattle.std.specs.List.{range_with_len}
use Rattle.ddf_bay.specs.Sectors.{Image}
use Rattle.ddf_config.specs.declared.array.Array.{Array}
use Rattle.ddf_config.specs.declared.seat.Seat.{Seat}
use Rattle.ddf_config.specs.Configuration.{Configuration}
use Rattle.ddf_config.specs.Members.{same_guid}
use Rattle.ddf_array.specs.Volume.{Volume}
use Rattle.ddf_data_array.specs.Allowed.{Allowed}
use Rattle.ddf_data_array.specs.Rows.{AreAlikeThroughout}
use Rattle.ddf_data_group.specs.Over.{IsOver}
use Rattle.ddf_data_group.specs.Grouped.{KeepsArrays, Promises}
use Rattle.ddf_history.specs.Issued.{Past, IsSince}
use Rattle.ddf_history.specs.Groups.{Disk, groups, has_current}

-- the seat of a slot whose disk is a current member and isn't lost; `floor` tells the floor of each slot's disk
abbrev pub seat_if : Bool → (floor : ℕ → ℕ) → (disk : Disk) → ℕ → Option Seat
seat_if here floor disk slot = if here then Some (record { reference = disk.reference; slot = slot; floor = floor slot; bad = 0 }) else None

module _ (group : List ℕ) where
  -- the slot's disk is a current member, and isn't lost
  abbrev pub is_seat : Past (groups group) → Configuration → ℕ → Bool
  is_seat past config slot = not (past.lost slot) && has_current config (past.disk slot)

  -- The seats that a configuration lists among the slots that aren't lost.
  abbrev pub seats_in : Past (groups group) → (floor : ℕ → ℕ) → Configuration → List Seat
  seats_in past floor config = filter_map (λ slot. seat_if (is_seat past config slot) floor (past.disk slot) slot) (range_with_len 0 past.slots)

  -- The data of a group: under each configuration since the last acknowledged one, over the seats that it lists among the slots that aren't
  -- lost, each array keeps its data of which something is promised.
  abbrev pub KeepsData : Past (groups group) → (floor : ℕ → ℕ) → Image → Promises → Type 0
  KeepsData past floor image promises = (number : ℕ) (config : Configuration) → IsSince past.changes number config → KeepsArrays config (seats_in past floor config) image promises

  -- no member is in two slots
  abbrev pub AreAlone : Past (groups group) → Type 0
  AreAlone past = (s t number : ℕ) (config : Configuration) → IsSince past.changes number config → has_current config (past.disk s) ≡ true → past.disk s ≡ past.disk t → s ≡ t

  -- the same slots and disks, of which others may be lost now
  pub record IsSameBay (old new : Past (groups group)) : Type 0 where
    pub same_slots : new.slots ≡ old.slots
    pub same_disks : new.disk ≡ old.disk

  -- no slot is there that was lost
  abbrev pub StayLost : (old new : Past (groups group)) → Type 0
  StayLost old new = (slot : ℕ) → old.lost slot ≡ true → new.lost slot ≡ true

  -- One configuration alone was issued since the last acknowledged one: itself.
  abbrev pub IsAlone : Past (groups group) → Configuration → Type 0
  IsAlone past config = (number : ℕ) (other : Configuration) → IsSince past.changes number other → other ≡ config

  -- What other arrays hold stays as it was, those of which something is promised.
  abbrev pub OthersStay : Configuration → List Seat → Promises → (guid : List ℕ) → (before image : Image) → Type 0
  OthersStay config seats promises guid before image =
      (other : List ℕ) (array : Array) (volume : Volume) → other ≢ guid → lookup (same_guid other) config.arrays ≡ Some array → IsOver seats array volume
      → AreAlikeThroughout volume before image

-- the promise of one array is another one now
abbrev pub with_promise : Promises → List ℕ → Option Allowed → Promises
with_promise promises guid new other = if same_guid guid other then new else promises other

-- below the floor of each slot the sectors are as they were: records lie at or past it
abbrev pub SameBelow : (floor : ℕ → ℕ) → (before image : Image) → Type 0
SameBelow floor before image = (slot lba : ℕ) → lba < floor slot → image slot lba ≡ before slot lba
