-- Histories of a group and of its data on disks in memory, and how they go on.
use Rattle.std.specs.Prelude.{◌≡◌, ℕ, ◌<◌, ◌≤◌, ◌^◌, Bool, false, true, List, Option, Some, [], ◌∷◌}
use Rattle.ddf_bay.specs.Memory.{disks_of}
use Rattle.ddf_bay.specs.declared.memory.MemoryBay.{MemoryBay}
use Rattle.ddf_bytes.specs.Streams.{SourceState}
use Rattle.ddf_config.specs.Configuration.{Configuration}
use Rattle.ddf_copy.specs.declared.copy.DiskCopy.{DiskCopy}
use Rattle.ddf_copy.specs.declared.newest_copy.Newest.{Newest}
use Rattle.ddf_view.specs.View.{view_of}
use Rattle.ddf_data_group.specs.Grouped.{Promises}
use Rattle.ddf_history.specs.Groups.{disk_of, groups, has_current}
use Rattle.ddf_history.specs.History.{KeepsAcked}
use Rattle.ddf_history.specs.Issued.{IsSince, Past}
use Rattle.ddf_history_steps.specs.Founding.{founding_config}
use Rattle.ddf_history_steps.specs.Kept.{is_read}
use Rattle.ddf_history_memory.specs.Found.{IsYoungOn}
use Rattle.ddf_history_memory.specs.Histories.{IsHistoryOn}
use Rattle.ddf_data_events.specs.Beginnings.{first_moment}
use Rattle.ddf_data_events.specs.Calls.{Call, Course, EndsAt, Finds, HasComeTo, MayPromise, PromisesThen, course_of, exit_of}
use Rattle.ddf_data_events.specs.Moments.{KeepsAll, Moment}

-- A history of the group over all slots of a bay in memory, in which a change of this engine is acknowledged, and of its data: whatever a stop leaves shows
-- what it should, and keeps the data that are promised.
pub record IsDataHistoryOn (group : List ℕ) (moment : Moment group MemoryBay) : Type 0 where
  pub history : IsHistoryOn group moment.past moment.bay
  pub keeps : KeepsAll disks_of moment

-- the moment behind another one, on this bay: the floors stay
abbrev pub behind : {group : List ℕ} → Moment group MemoryBay → Past (groups group) → MemoryBay → Promises → Moment group MemoryBay
behind old past bay promises = record { past = past; bay = bay; promises = promises; floor = old.floor; small = old.small }

-- The history goes on on this bay with all that was acknowledged: it has come so far, and so is promised.
pub record GoesOnTo (group : List ℕ) (old : Moment group MemoryBay) (bay : MemoryBay) (Comes : Past (groups group) → Type 0) (Is : Promises → Type 0) : Type 0 where
  pub past : Past (groups group)
  pub promises : Promises
  pub comes : Comes past
  pub is_promised : Is promises
  pub history : IsDataHistoryOn group (behind old past bay promises)
  pub acked : KeepsAcked old.past past

-- A history begins: the founding configuration alone was issued, and is acknowledged, and nothing is lost. The disk of each of the first slots, so
-- many, is the one that its new copy names, and is a current member of it. Nothing is promised of any array yet.
pub record IsDataBegun (group : List ℕ) (count : ℕ) (copy : ℕ → DiskCopy) (bay : MemoryBay) : Type 0 where
  pub past : Past (groups group)
  pub floor : ℕ → ℕ
  pub small : (slot : ℕ) → floor slot < 2 ^ 64
  pub history : IsDataHistoryOn group (first_moment past bay floor small)
  pub issued_is : past.changes.issued ≡ founding_config copy ∷ []
  pub acked_is : past.changes.acked ≡ 0
  pub lost_none : (slot : ℕ) → past.lost slot ≡ false
  pub returned_none : (slot : ℕ) → past.returned slot ≡ false
  pub names : (slot : ℕ) → slot < count → past.disk slot ≡ disk_of (view_of (copy slot))
  pub members : (slot : ℕ) → slot < count → (number : ℕ) (config : Configuration) → IsSince past.changes number config → has_current config (past.disk slot) ≡ true

-- A history of a group from elsewhere over all slots of a bay in memory, none of which is unplugged, of which no change of this engine is acknowledged yet, and of its data.
pub record IsYoungDataOn (group : List ℕ) (moment : Moment group MemoryBay) : Type 0 where
  pub history : IsYoungOn group moment.past moment.bay
  pub keeps : KeepsAll disks_of moment

-- A history begins with a group that was found: all is kept, and nothing is promised of any array yet.
pub record IsFoundData (group : List ℕ) (past : Past (groups group)) (bay : MemoryBay) : Type 0 where
  pub floor : ℕ → ℕ
  pub small : (slot : ℕ) → floor slot < 2 ^ 64
  pub young : IsYoungDataOn group (first_moment past bay floor small)

-- Behind a call all is kept. Once a change of this engine is acknowledged nothing has to be assumed of the group any more.
pub record LeavesOurData (group : List ℕ) (old : Moment group MemoryBay) (bay : MemoryBay) (Comes : Past (groups group) → Type 0) (Is : Promises → Type 0) : Type 0 where
  pub past : Past (groups group)
  pub promises : Promises
  pub comes : Comes past
  pub is_promised : Is promises
  pub keeps : KeepsAll disks_of (behind old past bay promises)
  pub acked : KeepsAcked old.past past
  pub ours : past.changes.own_from ≤ past.changes.acked → IsDataHistoryOn group (behind old past bay promises)

-- a slot that counts as lost isn't read, by the slots that a call left out
abbrev pub LeavesLostOut : (group : List ℕ) → Past (groups group) → (left : List Bool) → Type 0
LeavesLostOut group past left = (slot : ℕ) → past.lost slot ≡ true → is_read left slot ≡ false

-- ---- calls

-- an input as its state tells it
abbrev pub read_as : SourceState → SourceState
read_as source = source

-- a call of a history of data, over disks in memory and an input that tell what they hold
abbrev pub CallOn : (group : List ℕ) → Moment group MemoryBay → Type 0
CallOn group old = Call {tells = Unit {0}} tt disks_of (Unit {0}) read_as group old

-- its course
abbrev pub CourseOn : (group : List ℕ) → Moment group MemoryBay → Type 1
CourseOn group old = Course {tells = Unit {0}} tt disks_of (Unit {0}) read_as group old

abbrev pub course_on : (group : List ℕ) (old : Moment group MemoryBay) → CallOn group old → CourseOn group old
course_on group old call = course_of {tells = Unit {0}} tt disks_of (Unit {0}) read_as group call

-- A call that left these slots out found the group of the history, which admits it.
abbrev pub FindsOn : (group : List ℕ) → Moment group MemoryBay → (left : List Bool) → List (Option Newest) → Type 0
FindsOn group old left newest = Finds {tells = Unit {0}} tt disks_of (Unit {0}) read_as group old left newest (Some group)

-- where it ends
abbrev pub exit_on : (group : List ℕ) (old : Moment group MemoryBay) → CallOn group old → MemoryBay
exit_on group old call = exit_of {tells = Unit {0}} tt disks_of (Unit {0}) read_as group call

-- The history goes on behind a call, as far as it came: at its end,
abbrev pub EndsOn : (group : List ℕ) (old : Moment group MemoryBay) → CallOn group old → Type 0
EndsOn group old call =
    GoesOnTo group old (exit_on group old call) (EndsAt {tells = Unit {0}} tt disks_of (Unit {0}) read_as group call) (PromisesThen {tells = Unit {0}} tt disks_of (Unit {0}) read_as group call)

-- and where a stop cut it, on this bay.
abbrev pub CutOn : (group : List ℕ) (old : Moment group MemoryBay) → CallOn group old → (cut : MemoryBay) → Type 0
CutOn group old call cut = GoesOnTo group old cut (HasComeTo {tells = Unit {0}} tt disks_of (Unit {0}) read_as group call) (MayPromise {tells = Unit {0}} tt disks_of (Unit {0}) read_as group call)

-- the same in a group from elsewhere
abbrev pub EndsOurs : (group : List ℕ) (old : Moment group MemoryBay) → CallOn group old → Type 0
EndsOurs group old call =
    LeavesOurData group old (exit_on group old call) (EndsAt {tells = Unit {0}} tt disks_of (Unit {0}) read_as group call) (PromisesThen {tells = Unit {0}} tt disks_of (Unit {0}) read_as group call)
