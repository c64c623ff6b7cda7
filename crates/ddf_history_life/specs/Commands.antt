-- Commands over a group of disks in memory, as the contracts of the program's calls promise them.
use Rattle.std.specs.Prelude.{◌≡◌, ℕ, ◌<◌, true, false, List, [], ◌∷◌, map, Option, Some, None, Result, Ok, slice_get}
use Rattle.ddf_bay.specs.Memory.{disks_of}
use Rattle.ddf_bay.specs.declared.memory.MemoryBay.{MemoryBay}
use Rattle.ddf_config.specs.Configuration.{Configuration}
use Rattle.ddf_copy.specs.declared.copy.DiskCopy.{DiskCopy}
use Rattle.ddf_copy.specs.declared.newest_copy.Newest.{Newest}
use Rattle.ddf_group.specs.Shown.{shown_of}
use Rattle.ddf_group.specs.Slots.{group_shown, slot_at}
use Rattle.ddf_view.specs.View.{view_of}
use Rattle.ddf_history.specs.Answer.{IsPromised}
use Rattle.ddf_history.specs.Groups.{Disk, disk_of, groups, has_current}
use Rattle.ddf_history.specs.History.{KeepsAcked}
use Rattle.ddf_history.specs.Issued.{IsSince, Past}
use Rattle.ddf_seats.specs.Group.{GroupValue}
use Rattle.ddf_assembly.specs.Group.{group_of}
use Rattle.ddf_steps.specs.Steps.{Step}
use Rattle.ddf_history_steps.specs.Founding.{founding_config}
use Rattle.ddf_history_steps.specs.Kept.{is_read, told_answer}
use Rattle.ddf_answer.specs.declared.failure.Failure.{Failure}
use Rattle.ddf_answer.specs.Call.{work_of}
use Rattle.ddf_group_commands.specs.Change.{HasChanged, Request, steps_of}
use Rattle.ddf_history_memory.specs.Histories.{GoesWell, IsHistoryOn}

-- The words name the group; or they name none, and no disk shows another one.
abbrev pub Means : (group : List ℕ) → List (Option Newest) → (named : Option (List ℕ)) → Type 0
Means group newest (Some name) = name ≡ group
Means group newest None = (slot : ℕ) (other : List ℕ) → group_shown (slot_at (map shown_of newest) slot) ≡ Some other → other ≡ group

-- A command that takes the group, which its words mean: `assemble`, and each that changes a group and writes no blocks. It came to this (`has`, which
-- `IsAssembleDone` and `IsWished` hold of the program's calls), over disks in memory of which no call is listed to fail.
pub record IsCommand (group : List ℕ) (old exit : MemoryBay) : Type 0 where
  pub timestamp : ℕ
  pub request : Request
  pub outcome : Result ℕ Failure
  pub named : Option (List ℕ)
  pub has : HasChanged (work_of (Unit {0}) (disks_of old) (disks_of exit)) named timestamp request outcome
  pub means : Means group has.taken.newest named
  pub well : GoesWell old exit

-- The group that it found, and the steps that it asked for.
pub record IsAsked (group : List ℕ) (old exit : MemoryBay) (command : IsCommand group old exit) : Type 0 where
  pub found : GroupValue
  pub is_found : group_of command.has.taken.newest (Some group) ≡ Ok found
  pub steps : List Step
  pub are_asked : steps_of found command.timestamp command.request ≡ Ok steps

-- each of the steps lists the disk as a current member
abbrev pub KeepDisk : List Step → Disk → Type 0
KeepDisk steps disk = (place : ℕ) (step : Step) → slice_get steps place ≡ Some step → has_current step.config disk ≡ true

-- what assembly gives of what the command found is promised
abbrev pub IsToldAsPromised : (group : List ℕ) → Past (groups group) → (old exit : MemoryBay) → IsCommand group old exit → Type 0
IsToldAsPromised group past old exit command = IsPromised past (is_read command.has.taken.left) (told_answer (group_of command.has.taken.newest (Some group)))

-- The history goes on with all that was acknowledged. The disk in each slot stays, and which of them have come back.
pub record GoesOnTo (group : List ℕ) (past : Past (groups group)) (bay : MemoryBay) : Type 0 where
  pub now : Past (groups group)
  pub same_disks : now.disk ≡ past.disk
  pub same_returned : now.returned ≡ past.returned
  pub history : IsHistoryOn group now bay
  pub acked : KeepsAcked past now

-- A history begins: the founding configuration alone was issued, and is acknowledged; nothing is lost, and nothing has come back. The disk of each of
-- the first slots, so many, is the one that its new copy names, and is a current member of it.
pub record IsBegun (group : List ℕ) (count : ℕ) (copy : ℕ → DiskCopy) (bay : MemoryBay) : Type 0 where
  pub past : Past (groups group)
  pub history : IsHistoryOn group past bay
  pub issued_is : past.changes.issued ≡ founding_config copy ∷ []
  pub acked_is : past.changes.acked ≡ 0
  pub lost_none : (slot : ℕ) → past.lost slot ≡ false
  pub returned_none : (slot : ℕ) → past.returned slot ≡ false
  pub names : (slot : ℕ) → slot < count → past.disk slot ≡ disk_of (view_of (copy slot))
  pub members : (slot : ℕ) → slot < count → (number : ℕ) (config : Configuration) → IsSince past.changes number config → has_current config (past.disk slot) ≡ true
