-- Histories of a group on disks in memory: what calls promise of them, and how stops, unplugged slots and disks that come back go on from them.
use Rattle.std.specs.Prelude.{◌≡◌, ◌≢◌, ℕ, ◌<◌, ◌≤◌, Bool, true, false, List, [], length, None, Some, Ok, IsTrue, slice_get, slice_index, slice_index_or}
use Rattle.ddf_bay.specs.Memory.{disks_of, state_of}
use Rattle.ddf_bay.specs.Moments.{GoesOn, IsSettled}
use Rattle.ddf_bay.specs.ReadsOnly.{LookFailed}
use Rattle.ddf_bay.specs.Sectors.{Image, IsLeft}
use Rattle.ddf_bay.specs.declared.memory.MemoryBay.{MemoryBay}
use Rattle.ddf_config.specs.Configuration.{Configuration}
use Rattle.ddf_history.specs.Answer.{IsPromised}
use Rattle.ddf_history.specs.Groups.{groups, has_current}
use Rattle.ddf_history.specs.History.{KeepsAcked}
use Rattle.ddf_history.specs.Issued.{IsSince, Past}
use Rattle.ddf_seats.specs.Group.{GroupValue}
use Rattle.ddf_assembly.specs.Group.{group_of}
use Rattle.ddf_assembly.specs.Slots.{AreOut, newest_from}
use Rattle.ddf_steps.specs.Steps.{Step}
use Rattle.ddf_history_steps.specs.Going.{Ends, Goes, IsAdmitted, KeepsHistory}
use Rattle.ddf_history_steps.specs.Kept.{AreAllKept, is_read, told_answer}

-- ---- a history

-- A history of the group over all slots of the bay, in which a change of this engine is acknowledged: whatever a stop leaves of the disks shows what
-- it should, and each slot that is lost is unplugged.
pub record IsHistoryOn (group : List ℕ) (past : Past (groups group)) (bay : MemoryBay) : Type 0 where
  pub kept : AreAllKept group past (disks_of bay)
  pub same_slots : past.slots ≡ length (disks_of bay).sizes
  pub own : past.changes.own_from ≤ past.changes.acked
  pub lost_gone : (slot : ℕ) → slot < length (disks_of bay).sizes → past.lost slot ≡ true → (disks_of bay).gone slot

-- One current member can be read: its slot isn't unplugged, and the last acknowledged configuration lists the slot's disk as one.
pub record HasMemberOn (group : List ℕ) (past : Past (groups group)) (bay : MemoryBay) : Type 0 where
  pub slot : ℕ
  pub there : slot < length (disks_of bay).sizes
  pub plugged : (disks_of bay).gone slot → ⊥
  pub config : Configuration
  pub is_last : slice_get past.changes.issued past.changes.acked ≡ Some config
  pub is_current : has_current config (past.disk slot) ≡ true

-- ---- calls

-- Calls make another bay of one in memory that lists no calls to fail, with a sector on each slot.
pub record GoesWell (old new : MemoryBay) : Type 0 where
  pub none_listed : (state_of old).failing ≡ []
  pub never_over : (state_of old).stop_after ≡ None
  pub sized : (slot : ℕ) → slot < length (disks_of old).sizes → slice_index (disks_of old).sizes slot ≢ 0
  pub goes_on : GoesOn (disks_of old) (disks_of new)

-- What a call that takes a named group promises where it found it: which slots it left out, and what it means to the group's histories.
pub record IsTaken (group : List ℕ) (old new : MemoryBay) (left : List Bool) (found : GroupValue) (changes : List Configuration) (done : Bool) : Type 0 where
  pub every_slot : length left ≡ length (disks_of old).sizes
  pub failed : (slot : ℕ) → slot < length left → IsTrue (slice_index_or left slot false) → LookFailed (disks_of old) (disks_of new) slot
  pub gone : AreOut (disks_of old) left
  pub is_found : group_of (newest_from (disks_of old) 0 left) (Some group) ≡ Ok found
  pub keeps : (past : Past (groups group)) → AreAllKept group past (disks_of old) → IsAdmitted group past (disks_of old) left found
      → KeepsHistory group (disks_of old) (disks_of new) past left found changes done

-- A call at its end leaves a history of the group that goes on, as far as the call came, with all that was acknowledged.
pub record LeavesHistory (group : List ℕ) (past : Past (groups group)) (exit : MemoryBay) (readable : List Bool) (found : GroupValue) (changes : List Configuration) (done : Bool) : Type 0 where
  pub now : Past (groups group)
  pub ends : Ends group past (is_read readable) found changes done now
  pub history : IsHistoryOn group now exit
  pub acked : KeepsAcked past now

-- So does a call that a stop cut.
pub record LeavesCut (group : List ℕ) (past : Past (groups group)) (cut : MemoryBay) (readable : List Bool) (found : GroupValue) (changes : List Configuration) : Type 0 where
  pub now : Past (groups group)
  pub goes : Goes group past (is_read readable) found changes now
  pub history : IsHistoryOn group now cut
  pub acked : KeepsAcked past now

-- The disk is a current member of each configuration since the last acknowledged one, and of that of each step of a call.
pub record StaysMember (group : List ℕ) (past : Past (groups group)) (slot : ℕ) (steps : List Step) : Type 0 where
  pub pending : (number : ℕ) (config : Configuration) → IsSince past.changes number config → has_current config (past.disk slot) ≡ true
  pub each : (place : ℕ) (step : Step) → slice_get steps place ≡ Some step → has_current step.config (past.disk slot) ≡ true

-- ---- stops

-- The bay goes on as this image, with nothing pending. What was unplugged is so still.
pub record IsCutAt (old : MemoryBay) (image : Image) (cut : MemoryBay) : Type 0 where
  pub same_sizes : (disks_of cut).sizes ≡ (disks_of old).sizes
  pub same_held : (disks_of cut).held ≡ image
  pub settled : (slot : ℕ) → IsSettled (disks_of cut).may_hold (disks_of cut).held slot
  pub still_gone : (slot : ℕ) → (disks_of old).gone slot → (disks_of cut).gone slot

-- A stop between calls: the bay goes on as one of the images that it may leave, with nothing pending. What was unplugged is so still, but for these slots.
pub record IsStopped (old cut : MemoryBay) (back : ℕ → Bool) : Type 0 where
  pub same_sizes : (disks_of cut).sizes ≡ (disks_of old).sizes
  pub left : IsLeft (disks_of old).may_hold (disks_of cut).held
  pub settled : (slot : ℕ) → IsSettled (disks_of cut).may_hold (disks_of cut).held slot
  pub still_gone : (slot : ℕ) → back slot ≡ false → (disks_of old).gone slot → (disks_of cut).gone slot

-- ---- assembly

-- Of the slots none is left out but the unplugged ones.
abbrev pub AreRead : MemoryBay → (left : List Bool) → Type 0
AreRead bay left = (slot : ℕ) → slot < length left → slice_index_or left slot false ≡ true → (disks_of bay).gone slot

-- What the newest copies give of the named group is promised: a configuration since the last acknowledged one; or, where a disk is read that has come
-- back, maybe two records that contradict each other.
abbrev pub IsAnswered : (group : List ℕ) → Past (groups group) → MemoryBay → (left : List Bool) → Type 0
IsAnswered group past bay left = IsPromised past (is_read left) (told_answer (group_of (newest_from (disks_of bay) 0 left) (Some group)))
