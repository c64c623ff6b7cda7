-- A life of a group and of its data on disks in memory, from the label to a read without one of the disks: what it rests on, and what it ends with.
use Rattle.std.specs.Prelude.{◌≡◌, ◌≢◌, ◌⊎◌, ℕ, Bool, ◌<◌, true, List, [], length, is_some, Some, Ok, ◌++◌}
use Rattle.ddf_bytes.specs.declared.stamp.Stamp.{Stamp}
use Rattle.ddf_header.specs.declared.kind.Revision.{Revision}
use Rattle.ddf_bay.specs.Memory.{disks_of, state_of, without}
use Rattle.ddf_bay.specs.Sectors.{Image}
use Rattle.ddf_bay.specs.declared.memory.MemoryBay.{MemoryBay}
use Rattle.ddf_update.specs.NewCopies.{group_of as name_of}
use Rattle.ddf_array.specs.Volume.{capacity}
use Rattle.ddf_data_array.specs.Allowed.{Allowed, once_consistent, once_written, while_written}
use Rattle.ddf_history.specs.Groups.{groups}
use Rattle.ddf_history.specs.Issued.{Past}
use Rattle.ddf_history_steps.specs.Going.{Goes, IsOver, changes_in}
use Rattle.ddf_history_steps.specs.Kept.{is_read}
use Rattle.ddf_answer.specs.Call.{work_of}
use Rattle.ddf_disk_commands.specs.Label.{IsTried, label_copy}
use Rattle.ddf_write_commands.specs.Write.{is_written}
use Rattle.ddf_data_calls.specs.Reading.{MayBe, blocks_printed}
use Rattle.ddf_history_memory.specs.Histories.{IsCutAt}
use Rattle.ddf_data_events.specs.Moments.{Moment}
use Rattle.ddf_data_life.specs.Commands.{IsCreate, IsRead, IsResync, IsWrite}
use Rattle.ddf_data_life.specs.Histories.{IsDataBegun, IsDataHistoryOn}

-- none of the slots is unplugged
abbrev pub AreAllPlugged : MemoryBay → Type 0
AreAllPlugged bay = (slot : ℕ) → slot < length (disks_of bay).sizes → (disks_of bay).gone slot → ⊥

-- All slots of a bay are labelled, and an array is created and resynced. Blocks of it are written, and the write is acknowledged. Another write, of
-- any of its blocks, is cut by a stop anywhere, or behind it. Then a slot is unplugged, so that its disk is lost, and blocks of the array are read.
--
-- It rests on this: no slot is unplugged before the loss, and there is one that isn't the lost one. All commands name the group, and the array that
-- was created, and no call is listed to fail. The bay still tells what a stop may leave behind the stop and behind the read, and behind the second
-- write by the image that was left: a command on blocks makes as many calls as they need, so that no bound of its calls tells so.
pub record IsLife (large : Bool) (revision : Revision) (stamp : Stamp) (guid : List ℕ) (kept lost : ℕ) : Type 0 where
  -- the label
  pub blank : MemoryBay
  pub labelled : MemoryBay
  pub label : IsTried (work_of (Unit {0}) (disks_of blank) (disks_of labelled)) large revision stamp [] (Ok tt)
  pub same_sizes : (disks_of labelled).sizes ≡ (disks_of blank).sizes
  pub tells_blank : (disks_of blank).tells_left
  pub all_plugged : AreAllPlugged labelled
  pub kept_there : kept < length (disks_of blank).sizes
  pub apart : kept ≢ lost
  -- an array is created,
  pub created : MemoryBay
  pub create : IsCreate (name_of stamp) labelled created guid
  pub create_sequence : ℕ
  pub create_done : create.outcome ≡ Ok create_sequence
  -- and its disks are made to agree
  pub resynced : MemoryBay
  pub resync : IsResync (name_of stamp) created resynced
  pub resync_sequence : ℕ
  pub resync_done : resync.outcome ≡ Ok resync_sequence
  pub resync_names : resync.plan.entry.0 ≡ guid
  -- blocks are written
  pub written : MemoryBay
  pub write : IsWrite (name_of stamp) resynced written
  pub write_done : is_written write.outcome ≡ true
  pub write_names : write.plan.entry.0 ≡ guid
  -- a second write, and a stop within it or behind it: all slots are there again
  pub second_exit : MemoryBay
  pub second : IsWrite (name_of stamp) written second_exit
  pub second_names : second.plan.entry.0 ≡ guid
  pub image : Image
  pub was_left : (disks_of second_exit).left_since (disks_of written).moment image
  pub cut : MemoryBay
  pub is_cut : IsCutAt written image cut
  pub cut_tells : (disks_of cut).tells_left
  pub cut_plugged : AreAllPlugged cut
  -- a disk is lost
  pub without_one : MemoryBay
  pub is_unplugged : state_of without_one ≡ without (state_of cut) lost
  -- a read without it
  pub read_exit : MemoryBay
  pub read : IsRead (name_of stamp) without_one read_exit guid
  pub read_tells : (disks_of read_exit).tells_left

module _ {large : Bool} {revision : Revision} {stamp : Stamp} {guid : List ℕ} {kept lost : ℕ} (life : IsLife large revision stamp guid kept lost) where
  -- what is acknowledged of each block: the bytes of the first write, and those that the others had once the array was resynced
  abbrev pub acknowledged : Allowed
  acknowledged = once_written (once_consistent life.resync.plan.volume (disks_of life.resynced).held) life.write.start life.write.sectors

  -- and what each may have in the end: of the blocks that were given to the second write also its bytes
  abbrev pub in_the_end : Allowed
  in_the_end = while_written acknowledged life.second.start life.second.sectors

  -- The read printed, of each block that it printed, bytes that it may have in the end; of each block of the array something is acknowledged. So the
  -- history came there from the label on: each command that was done issued and acknowledged its changes, one behind the other, and the second write
  -- those of a front. It stands on the bay without the lost disk, which counts as not lost until a call goes on without it, and may go on from there:
  -- of the array that is promised which was acknowledged, or, where the second write was begun, that and its new bytes.
  pub record Outlives : Type 0 where
    pub printed : MayBe in_the_end life.read.start (blocks_printed life.read.outcome)
    pub each : (block : ℕ) → block < capacity life.resync.plan.volume → is_some (acknowledged block) ≡ true
    pub begun : IsDataBegun (name_of stamp) (length (disks_of life.blank).sizes) (label_copy large revision stamp (disks_of life.blank).sizes []) life.labelled
    pub after_create : Past (groups (name_of stamp))
    pub create_over : IsOver (name_of stamp) begun.past (is_read life.create.has.taken.left) life.create.took.found (changes_in life.create.took.found life.create.steps) after_create
    pub after_resync : Past (groups (name_of stamp))
    pub resync_over :
        IsOver (name_of stamp) after_create (is_read life.resync.has.taken.left) life.resync.took.found (changes_in life.resync.took.found (life.resync.plan.first ++ life.resync.plan.last)) after_resync
    pub after_write : Past (groups (name_of stamp))
    pub write_over : IsOver (name_of stamp) after_resync (is_read life.write.has.taken.left) life.write.took.found (changes_in life.write.took.found (life.write.plan.first ++ life.write.plan.last)) after_write
    pub now : Moment (name_of stamp) MemoryBay
    pub second_goes : Goes (name_of stamp) after_write (is_read life.second.has.taken.left) life.second.took.found (changes_in life.second.took.found (life.second.plan.first ++ life.second.plan.last)) now.past
    pub is_bay : now.bay ≡ life.without_one
    pub history : IsDataHistoryOn (name_of stamp) now
    pub is_promised : (now.promises guid ≡ Some acknowledged) ⊎ (now.promises guid ≡ Some in_the_end)
