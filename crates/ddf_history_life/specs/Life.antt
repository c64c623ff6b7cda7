-- A life of a group on disks in memory, from the label on: what it rests on, and what it ends with.
use Rattle.std.specs.Prelude.{◌≡◌, ◌≢◌, ℕ, Bool, ◌<◌, ◌==◌, true, List, [], length, Ok, Err, ◌+◌, ◌∷◌, slice_get}
use Rattle.ddf_bytes.specs.declared.stamp.Stamp.{Stamp}
use Rattle.ddf_header.specs.declared.kind.Revision.{Revision}
use Rattle.ddf_bay.specs.Memory.{disks_of, state_of, without}
use Rattle.ddf_bay.specs.Sectors.{Image}
use Rattle.ddf_bay.specs.declared.memory.MemoryBay.{MemoryBay}
use Rattle.ddf_update.specs.NewCopies.{group_of as name_of}
use Rattle.ddf_view.specs.View.{view_of}
use Rattle.ddf_history.specs.Groups.{Disk, disk_of, groups, has_current}
use Rattle.ddf_history.specs.History.{KeepsAcked}
use Rattle.ddf_history.specs.Issued.{Past, give_back, lose}
use Rattle.ddf_history_steps.specs.Going.{Goes, IsOver, changes_in}
use Rattle.ddf_history_steps.specs.Kept.{is_read}
use Rattle.ddf_answer.specs.declared.failure.Failure.TheVariants.{Memory}
use Rattle.ddf_answer.specs.Call.{work_of}
use Rattle.ddf_disk_commands.specs.Label.{IsTried, label_copy}
use Rattle.ddf_history_memory.specs.Histories.{IsCutAt, IsHistoryOn, IsStopped}
use Rattle.ddf_history_life.specs.Commands.{IsAsked, IsBegun, IsCommand, IsToldAsPromised, KeepDisk}

-- the disk that the label makes of a slot
abbrev pub labelled_disk : (large : Bool) → Revision → Stamp → (sizes : List ℕ) → ℕ → Disk
labelled_disk large revision stamp sizes slot = disk_of (view_of (label_copy large revision stamp sizes [] slot))

-- All slots of a bay are labelled. A first command is cut by a stop anywhere, or behind it. A slot is unplugged, and its disk is lost: a second command
-- is done without it, and a third one behind that, as `fail` of another disk. At a stop the lost disk comes back, and a last command assembles.
--
-- It rests on this: on one slot, which is never unplugged, is a disk that each step of the commands lists as a current member. The lost disk was a
-- current member of what the second command found. The bay tells what a stop may leave behind each command, and memory is ample for the last three.
pub record IsLife (large : Bool) (revision : Revision) (stamp : Stamp) (kept lost : ℕ) : Type 0 where
  -- the label
  pub blank : MemoryBay
  pub labelled : MemoryBay
  pub label : IsTried (work_of (Unit {0}) (disks_of blank) (disks_of labelled)) large revision stamp [] (Ok tt)
  pub same_sizes : (disks_of labelled).sizes ≡ (disks_of blank).sizes
  pub tells_blank : (disks_of blank).tells_left
  pub kept_there : kept < length (disks_of blank).sizes
  pub lost_there : lost < length (disks_of blank).sizes
  pub apart : kept ≢ lost
  pub kept_labelled : (disks_of labelled).gone kept → ⊥
  -- a first command, and a stop within it or behind it
  pub first_exit : MemoryBay
  pub first : IsCommand (name_of stamp) labelled first_exit
  pub first_asked : IsAsked (name_of stamp) labelled first_exit first
  pub first_keeps : KeepDisk first_asked.steps (labelled_disk large revision stamp (disks_of blank).sizes kept)
  pub image : Image
  pub was_left : (disks_of first_exit).left_since (disks_of labelled).moment image
  pub cut : MemoryBay
  pub is_cut : IsCutAt labelled image cut
  pub kept_cut : (disks_of cut).gone kept → ⊥
  -- a disk is lost
  pub without_one : MemoryBay
  pub is_unplugged : state_of without_one ≡ without (state_of cut) lost
  pub lost_gone : (disks_of without_one).gone lost
  -- a second command, without it
  pub second_exit : MemoryBay
  pub second : IsCommand (name_of stamp) without_one second_exit
  pub second_asked : IsAsked (name_of stamp) without_one second_exit second
  pub second_keeps : KeepDisk second_asked.steps (labelled_disk large revision stamp (disks_of blank).sizes kept)
  pub second_sequence : ℕ
  pub second_done : second.outcome ≡ Ok second_sequence
  pub second_tells : (disks_of second_exit).tells_left
  pub lost_listed : has_current second_asked.found.config (labelled_disk large revision stamp (disks_of blank).sizes lost) ≡ true
  -- a third one
  pub third_exit : MemoryBay
  pub third : IsCommand (name_of stamp) second_exit third_exit
  pub third_asked : IsAsked (name_of stamp) second_exit third_exit third
  pub third_keeps : KeepDisk third_asked.steps (labelled_disk large revision stamp (disks_of blank).sizes kept)
  pub third_sequence : ℕ
  pub third_done : third.outcome ≡ Ok third_sequence
  pub third_tells : (disks_of third_exit).tells_left
  -- the lost disk comes back at a stop
  pub back : MemoryBay
  pub comes_back : IsStopped third_exit back (λ slot. slot == lost)
  pub kept_back : (disks_of back).gone kept → ⊥
  -- the last one
  pub last_exit : MemoryBay
  pub last : IsCommand (name_of stamp) back last_exit
  pub last_ample : last.outcome ≡ Err Memory → ⊥
  pub last_tells : (disks_of last_exit).tells_left

-- What was issued and acknowledged by the end, from the founding configuration on: the first command's changes as far as it came, and all those of the second
-- and the third one, each behind the other; none is issued behind them. At each of these moments the disks show what they should. What the last command
-- found is promised: the configuration behind them, or, where it reads the disk that has come back, maybe two records that contradict each other. No other
-- disk has come back.
pub record Outlives (large : Bool) (revision : Revision) (stamp : Stamp) (kept lost : ℕ) (life : IsLife large revision stamp kept lost) : Type 0 where
  pub begun : IsBegun (name_of stamp) (length (disks_of life.blank).sizes) (label_copy large revision stamp (disks_of life.blank).sizes []) life.labelled
  pub after_first : Past (groups (name_of stamp))
  pub first_shown : IsHistoryOn (name_of stamp) after_first life.cut
  pub first_goes : Goes (name_of stamp) begun.past (is_read life.first.has.taken.left) life.first_asked.found (changes_in life.first_asked.found life.first_asked.steps) after_first
  pub after_second : Past (groups (name_of stamp))
  pub second_shown : IsHistoryOn (name_of stamp) after_second life.second_exit
  pub second_over : IsOver (name_of stamp) (lose after_first lost) (is_read life.second.has.taken.left) life.second_asked.found (changes_in life.second_asked.found life.second_asked.steps) after_second
  pub after_third : Past (groups (name_of stamp))
  pub third_shown : IsHistoryOn (name_of stamp) after_third life.third_exit
  pub third_over : IsOver (name_of stamp) after_second (is_read life.third.has.taken.left) life.third_asked.found (changes_in life.third_asked.found life.third_asked.steps) after_third
  pub end_shown : IsHistoryOn (name_of stamp) (give_back after_third lost) life.back
  pub one_returned : (slot : ℕ) → (give_back after_third lost).returned slot ≡ true → slot ≡ lost
  pub none_behind : length after_third.changes.issued ≡ after_third.changes.acked + 1
  pub is_last : slice_get after_third.changes.issued after_third.changes.acked
      ≡ slice_get (life.third_asked.found.config ∷ changes_in life.third_asked.found life.third_asked.steps) (length (changes_in life.third_asked.found life.third_asked.steps))
  pub all_acked : KeepsAcked begun.past after_third
  pub is_told : IsToldAsPromised (name_of stamp) (give_back after_third lost) life.back life.last_exit life.last
