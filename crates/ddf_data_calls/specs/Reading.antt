-- A read of a group that a history tells of, and what it printed.
use Rattle.std.specs.Prelude.{◌≡◌, ℕ, ◌+◌, Bool, true, false, List, [], length, map, Option, Some, None, Ok, slice_get}
use Rattle.std.specs.Str.{bytes_eq}
use Rattle.ddf_bay.specs.State.{BayState}
use Rattle.ddf_copy.specs.declared.newest_copy.Newest.{Newest}
use Rattle.ddf_group.specs.Choice.{is_absorbed}
use Rattle.ddf_group.specs.Shown.{shown_of}
use Rattle.ddf_data_array.specs.Allowed.{Allowed, May}
use Rattle.ddf_data_group.specs.Grouped.{Promises}
use Rattle.ddf_history.specs.Answer.{HasMember, IsReadable}
use Rattle.ddf_history.specs.Groups.{groups}
use Rattle.ddf_history.specs.Issued.{IsSince, Past}
use Rattle.ddf_history.specs.Promise.{IsKept}
use Rattle.ddf_history.specs.Scenes.{scene_of}
use Rattle.ddf_history_steps.specs.Kept.{is_read}
use Rattle.ddf_data_history.specs.Promised.{KeepsData}
use Rattle.ddf_config.specs.declared.array.Array.{Array}
use Rattle.ddf_seats.specs.Group.{GroupValue}
use Rattle.ddf_assembly.specs.Group.{group_of}
use Rattle.ddf_request.specs.Named.{named_array}
use Rattle.ddf_answer.specs.Call.{Answer}
use Rattle.ddf_answer.specs.Tells.{EndedWith}
use Rattle.ddf_read_commands.specs.Read.{Outcome, bytes_of}
use Rattle.ddf_read_commands.specs.Read.Outcome.{CutShort, NotRead, Stopped, Whole}
use Rattle.ddf_data_calls.specs.Floors.{HaveFloors}

-- A call means this group: it names it, or it names none and no other group absorbs this one.
abbrev pub Means : (group : List ℕ) → List (Option Newest) → (named : Option (List ℕ)) → Type 0
Means group newest None = is_absorbed (map shown_of newest) group ≡ false
Means group newest (Some name) = bytes_eq name group ≡ true

-- A history of a group and of its data admits a read that leaves these slots out. A current member is among the slots that it reads. The disks
-- show what they should, and keep the data, and each slot of a member has its floor.
pub record AdmitsRead (group : List ℕ) {D : Type 0} (past : Past (groups group)) (floor : ℕ → ℕ) (promises : Promises) (disks : BayState D) (left : List Bool) : Type 0 where
  pub same_slots : past.slots ≡ length disks.sizes
  pub may_read : IsReadable past (scene_of disks.sizes disks.held) (is_read left)
  pub member : HasMember past (scene_of disks.sizes disks.held) (is_read left)
  pub is_kept : IsKept past (scene_of disks.sizes disks.held)
  pub keeps : KeepsData group past floor disks.held promises
  pub have_floors : HaveFloors group past disks floor

-- the blocks that were printed: where the output gave out, those of which a front was
abbrev pub blocks_printed : Outcome → List (List ℕ)
blocks_printed (Whole sectors) = sectors
blocks_printed (NotRead failure) = []
blocks_printed (Stopped front slot) = front
blocks_printed (CutShort front) = front

-- Each of these sectors, the blocks from a number on, has bytes that its block may have.
abbrev pub MayBe : Allowed → (start : ℕ) → List (List ℕ) → Type 0
MayBe allowed start sectors = (k : ℕ) (bytes : List ℕ) → slice_get sectors k ≡ Some bytes → May (allowed (start + k)) bytes

-- A call printed the bytes of so many blocks, from a number on, of the array that a word names, and nothing else. The group that it found has a
-- configuration since the last acknowledged one, and each of the blocks has bytes that it may have.
pub record HasReturned (group : List ℕ) (past : Past (groups group)) (promises : Promises) (newest : List (Option Newest)) (named : Option (List ℕ)) (word : List ℕ) (start count : ℕ) (answer : Answer) : Type 0 where
  pub found : GroupValue
  pub is_found : group_of newest named ≡ Ok found
  pub number : ℕ
  pub since : IsSince past.changes number found.config
  pub guid : List ℕ
  pub array : Array
  pub is_named : named_array found.config.arrays word ≡ Some (guid, array)
  pub sectors : List (List ℕ)
  pub counted : length sectors ≡ count
  pub printed : EndedWith 0 (bytes_of sectors) answer
  pub may_be : (allowed : Allowed) → promises guid ≡ Some allowed → MayBe allowed start sectors
