-- A group that was found on disks, as a history begins with it.
use Rattle.std.specs.Prelude.{◌≡◌, ◌⊎◌, ℕ, ◌<◌, ◌≤◌, true, false, Bool, List, [], ◌∷◌, length, Some, Ok, slice_get, slice_index_or}
use Rattle.ddf_bay.specs.Memory.{disks_of}
use Rattle.ddf_bay.specs.State.{BayState}
use Rattle.ddf_bay.specs.declared.memory.MemoryBay.{MemoryBay}
use Rattle.ddf_config.specs.Configuration.{Configuration}
use Rattle.ddf_view.specs.View.{View}
use Rattle.ddf_history.specs.Groups.{Disk, disk_of, groups, has_current}
use Rattle.ddf_history.specs.Issued.{Past}
use Rattle.ddf_history.specs.Promise.{IsKept}
use Rattle.ddf_history.specs.History.{KeepsAcked}
use Rattle.ddf_history.specs.Reading.{IsCopyOf, Scene, ShowsGroup, stands}
use Rattle.ddf_history.specs.Scenes.{scene_of}
use Rattle.ddf_assembly.specs.Assembled.{IsAssembledGroup}
use Rattle.ddf_seats.specs.Group.{GroupValue}
use Rattle.ddf_assembly.specs.Group.{group_of}
use Rattle.ddf_assembly.specs.Reading.{HaveAnchors}
use Rattle.ddf_assembly.specs.Slots.{newest_from}
use Rattle.ddf_history_steps.specs.Going.{Ends}
use Rattle.ddf_history_steps.specs.Kept.{AreAllKept, is_read}
use Rattle.ddf_history_memory.specs.Histories.{IsHistoryOn}

-- what each slot shows of what the disks hold
abbrev pub shown_on : {D : Type 0} → BayState D → Scene View
shown_on disks = scene_of disks.sizes disks.held

-- `assemble` answered this group by its name, over all slots, with nothing absent and nothing behind. Two copies of one slot that differ name one
-- disk, and no slot that shows the group lists one of its members as missing: these two aren't told by `assemble`.
pub record IsFoundWhole {D : Type 0} (group : List ℕ) (disks : BayState D) (left : List Bool) (found : GroupValue) : Type 0 where
  pub every_slot : length left ≡ length disks.sizes
  pub none_left : (slot : ℕ) → slot < length left → slice_index_or left slot false ≡ false
  pub is_found : group_of (newest_from disks 0 left) (Some group) ≡ Ok found
  pub recovers : IsAssembledGroup found
  pub under : HaveAnchors disks.sizes found.newest
  pub none_absent : found.absent ≡ []
  pub none_lags : found.lagging ≡ []
  pub one_disk : (slot : ℕ) (one other : View) → IsCopyOf (shown_on disks slot) one → IsCopyOf (shown_on disks slot) other → disk_of one ≡ disk_of other
  pub misses_none : (slot : ℕ) (copy : View) (disk : Disk) → IsCopyOf (shown_on disks slot) copy → ShowsGroup (groups group) (shown_on disks slot) → has_current found.config disk ≡ true
      → (groups group).lists_missing copy disk ≡ true → ⊥

-- A slot leads that isn't lost: its disk is a current member of the last acknowledged configuration, and it shows the group with that one's sequence
-- number or a later one.
pub record LeadsOn {D : Type 0} (group : List ℕ) (past : Past (groups group)) (disks : BayState D) : Type 0 where
  pub slot : ℕ
  pub there : slot < length disks.sizes
  pub config : Configuration
  pub is_last : slice_get past.changes.issued past.changes.acked ≡ Some config
  pub is_current : has_current config (past.disk slot) ≡ true
  pub copy : View
  pub is_copy : IsCopyOf (shown_on disks slot) copy
  pub is_standing : stands (groups group) copy ≡ true
  pub late : config.sequence ≤ copy.sequence

-- A history begins with what was found: that configuration was issued and is acknowledged, it is from elsewhere, and nothing is lost. The disk of a slot
-- is the one that its first copy names, and each member is there.
pub record BeginsFound {D : Type 0} (group : List ℕ) (disks : BayState D) (found : GroupValue) : Type 0 where
  pub past : Past (groups group)
  pub kept : IsKept past (shown_on disks)
  pub issued_is : past.changes.issued ≡ found.config ∷ []
  pub acked_is : past.changes.acked ≡ 0
  pub own : past.changes.own_from ≡ 1
  pub same_slots : past.slots ≡ length disks.sizes
  pub lost_none : (slot : ℕ) → past.lost slot ≡ false
  pub returned_none : (slot : ℕ) → past.returned slot ≡ false
  pub are_present : (disk : Disk) → has_current found.config disk ≡ true → (slot : ℕ) × (past.disk slot ≡ disk)
  pub leads : LeadsOn group past disks

-- ---- its first commands

-- A history of a group from elsewhere, of which no change of this engine is acknowledged yet, over all slots of a bay in memory of which none is
-- unplugged.
pub record IsYoungOn (group : List ℕ) (past : Past (groups group)) (bay : MemoryBay) : Type 0 where
  pub kept : AreAllKept group past (disks_of bay)
  pub same_slots : past.slots ≡ length (disks_of bay).sizes
  pub acked_is : past.changes.acked ≡ 0
  pub own : past.changes.own_from ≡ 1
  pub lost_none : (slot : ℕ) → past.lost slot ≡ false
  pub plugged : (slot : ℕ) → slot < length (disks_of bay).sizes → (disks_of bay).gone slot → ⊥

-- The group can be taken as it was found: no change of this engine is acknowledged yet, and a slot leads.
pub record StandsFound (group : List ℕ) (past : Past (groups group)) (bay : MemoryBay) : Type 0 where
  pub young : IsYoungOn group past bay
  pub leads : LeadsOn group past (disks_of bay)

-- A call that left the sectors as they were leaves it so, or a change of this engine is acknowledged behind it.
pub record LeavesFound (group : List ℕ) (past : Past (groups group)) (exit : MemoryBay) (readable : List Bool) (found : GroupValue) (changes : List Configuration) (done : Bool) : Type 0 where
  pub now : Past (groups group)
  pub ends : Ends group past (is_read readable) found changes done now
  pub goes_on : StandsFound group now exit ⊎ IsHistoryOn group now exit

-- A call leaves the group as a history of it that goes on, as far as the call came. Once a change of this engine is acknowledged nothing has to be
-- assumed of the group any more.
pub record LeavesOurs (group : List ℕ) (past : Past (groups group)) (exit : MemoryBay) (readable : List Bool) (found : GroupValue) (changes : List Configuration) (done : Bool) : Type 0 where
  pub now : Past (groups group)
  pub ends : Ends group past (is_read readable) found changes done now
  pub kept : AreAllKept group now (disks_of exit)
  pub acked : KeepsAcked past now
  pub ours : now.changes.own_from ≤ now.changes.acked → IsHistoryOn group now exit
  pub done_ours : done ≡ true → 0 < length changes → IsHistoryOn group now exit
