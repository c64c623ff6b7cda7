-- What a bay in memory is made of, and what each call makes of it.
use Rattle.std.specs.Prelude.{◌≡◌, ◌⊎◌, ℕ, ◌+◌, ◌-◌, ◌^◌, ◌<◌, ◌≤◌, None, List, [], ◌++◌, length, min, replicate, Bool, true, false, ◌==◌, ◌||◌, Option, slice_index, slice_index_or, slice_set}
use Rattle.std.specs.List.{list_any}
use Rattle.ddf_bay.specs.Counting.{one_more, with_one_more}
use Rattle.ddf_bay.specs.Sectors.{Image}
use Rattle.ddf_bay.specs.State.{BayState}
use Rattle.ddf_bay.specs.Logged.{held_of, MayHold, LeftSince, is_reached, settled, run_logged, survivors}
use Rattle.ddf_bay.specs.declared.logged_write.LoggedWrite.{LoggedWrite}
use Rattle.ddf_bay.specs.declared.memory.MemoryBay.{MemoryBay}

pub record MemoryState : Type 0 where
  -- of each slot, in sectors
  pub sizes : List ℕ
  pub logged : List LoggedWrite
  -- the sectors that were written so far, those included that a stop dropped
  pub written : ℕ
  -- the sectors that it was asked to write: those of failed writes too, but for those before the last stop
  pub asked : ℕ
  -- how many more sectors can be written
  pub room : ℕ
  -- the numbers of the calls that fail
  pub failing : List ℕ
  -- every call from this number on fails
  pub stop_after : Option ℕ
  pub unplugged : List Bool
  -- of each slot
  pub failed_reads : List ℕ
  pub failed_writes : List ℕ
  pub clock : ℕ
  -- the calls that were made since the start or the last stop: the number of the next call
  pub calls : ℕ

abbrev pub state_of : MemoryBay → MemoryState
state_of bay = record {
  sizes = bay.sizes.items;
  logged = bay.log.logged.items;
  written = bay.written;
  asked = bay.asked;
  room = bay.log.room;
  failing = bay.failing.items;
  stop_after = bay.stop_after;
  unplugged = bay.unplugged;
  failed_reads = bay.read_faults;
  failed_writes = bay.write_faults;
  clock = bay.clock;
  calls = bay.made;
}

-- no call is listed, and no slot is unplugged
pub record IsHealthy (bay : MemoryState) : Type 0 where
  pub none_listed : bay.failing ≡ []
  pub never_over : bay.stop_after ≡ None
  pub plugged : (slot : ℕ) → slice_index_or bay.unplugged slot false ≡ false

-- No call is listed, and the slot isn't unplugged.
pub record IsPlugged (bay : MemoryState) (slot : ℕ) : Type 0 where
  pub none_listed : bay.failing ≡ []
  pub never_over : bay.stop_after ≡ None
  pub plugged : slice_index_or bay.unplugged slot false ≡ false

-- it was asked to write more sectors than it ever had room for
abbrev pub IsShort : MemoryState → Type 0
IsShort bay = bay.room + bay.written < bay.asked

-- A stop leaves nothing else than before, while the clock is below its last value.
pub record LeavesNoMore (bay next : MemoryState) : Type 0 where
  pub later : bay.clock ≤ next.clock
  pub left : (s l : ℕ) (bytes : List ℕ) → (next.clock < 2 ^ 64 - 1) × MayHold next.clock next.logged s l bytes → (bay.clock < 2 ^ 64 - 1) × MayHold bay.clock bay.logged s l bytes
  pub since : (t : ℕ) (image : Image) → t ≤ bay.clock → (next.clock < 2 ^ 64 - 1) × LeftSince next.clock next.logged t image
      → ((bay.clock < 2 ^ 64 - 1) × LeftSince bay.clock bay.logged t image) ⊎ ((s l : ℕ) → (bay.clock < 2 ^ 64 - 1) × MayHold bay.clock bay.logged s l (image s l))

-- Calls keep what fails and how many sectors can be written in all, and move the clock on, by one at most each while they are counted. Where no
-- call is listed none fails on a slot that isn't unplugged, while there is room. Where no sector was asked for a stop leaves nothing else than before.
pub record MayBecome (bay next : MemoryState) : Type 0 where
  pub same_sizes : next.sizes ≡ bay.sizes
  pub same_failing : next.failing ≡ bay.failing
  pub same_stop : next.stop_after ≡ bay.stop_after
  pub same_unplugged : next.unplugged ≡ bay.unplugged
  pub same_room : next.room + next.written ≡ bay.room + bay.written
  pub written_up : bay.written ≤ next.written
  pub asked_up : bay.asked ≤ next.asked
  pub no_reads : (slot : ℕ) → IsPlugged bay slot → slice_index next.failed_reads slot ≡ slice_index bay.failed_reads slot
  pub no_writes : (slot : ℕ) → IsPlugged bay slot → (slice_index next.failed_writes slot ≡ slice_index bay.failed_writes slot) ⊎ IsShort next
  pub later : bay.clock ≤ next.clock
  pub calls_up : bay.calls ≤ next.calls
  pub most_later : next.calls < 2 ^ 64 - 1 → next.clock + bay.calls ≤ bay.clock + next.calls
  pub unasked : next.asked ≡ bay.asked → next.asked < 2 ^ 64 - 1 → LeavesNoMore bay next

-- what the bay tells: of what a stop may leave while its clock is below its last value
abbrev pub disks_of : MemoryBay → BayState MemoryBay
disks_of bay = record {
  sizes = bay.sizes.items;
  held = held_of bay.log.logged.items;
  tells_left = bay.clock < 2 ^ 64 - 1;
  may_hold = λ s l bytes. (bay.clock < 2 ^ 64 - 1) × MayHold bay.clock bay.log.logged.items s l bytes;
  moment = bay.clock;
  left_since = λ t image. (bay.clock < 2 ^ 64 - 1) × LeftSince bay.clock bay.log.logged.items t image;
  failed_reads = slice_index bay.read_faults;
  failed_writes = slice_index bay.write_faults;
  sectors_written = bay.written;
  sectors_asked = bay.asked;
  calls = bay.made;
  gone = λ slot. slice_index_or bay.unplugged slot false ≡ true;
  leads_to = λ next. MayBecome (state_of bay) (state_of next);
}

-- a bay of zeros
abbrev pub blank : List ℕ → ℕ → List ℕ → Option ℕ → MemoryState
blank sizes writes failing stop_after = record {
  sizes = sizes;
  logged = [];
  written = 0;
  asked = 0;
  room = writes;
  failing = failing;
  stop_after = stop_after;
  unplugged = replicate 64 false;
  failed_reads = replicate 64 0;
  failed_writes = replicate 64 0;
  clock = 0;
  calls = 0;
}

-- the next call fails if it is on this slot: its number is listed or past the last, or the slot is unplugged
abbrev pub fails_next : MemoryState → ℕ → Bool
fails_next bay slot =
    slice_index_or bay.unplugged slot false || list_any (λ n. n == bay.calls) bay.failing || is_reached bay.calls bay.stop_after

-- a call was made, and nothing else is changed
abbrev pub called : MemoryState → MemoryState
called bay = record bay { clock = one_more bay.clock; calls = one_more bay.calls }

-- a read of the slot failed
abbrev pub read_failed : MemoryState → ℕ → MemoryState
read_failed bay slot = record (called bay) { failed_reads = with_one_more bay.failed_reads slot }

-- a sync of the slot failed
abbrev pub sync_failed : MemoryState → ℕ → MemoryState
sync_failed bay slot = record (called bay) { failed_writes = with_one_more bay.failed_writes slot }

-- so many more sectors, up to the last value of the count
abbrev pub with_asked : ℕ → ℕ → ℕ
with_asked asked count = min (asked + count) (2 ^ 128 - 1)

-- a write of so many sectors to the slot failed
abbrev pub write_failed : MemoryState → ℕ → ℕ → MemoryState
write_failed bay slot count = record (called bay) { failed_writes = with_one_more bay.failed_writes slot; asked = with_asked bay.asked count }

-- a run was written
abbrev pub run_written : MemoryState → ℕ → ℕ → List (List ℕ) → MemoryState
run_written bay slot lba sectors = record (called bay) {
  asked = with_asked bay.asked (length sectors);
  logged = bay.logged ++ run_logged slot lba (one_more bay.clock) sectors;
  written = bay.written + length sectors;
  room = bay.room - length sectors;
}

-- the slot was synced
abbrev pub synced : MemoryState → ℕ → MemoryState
synced bay slot = record (called bay) { logged = settled slot (one_more bay.clock) bay.logged }

-- the slot was unplugged
abbrev pub without : MemoryState → ℕ → MemoryState
without bay slot = record bay { unplugged = slice_set bay.unplugged slot true }

-- a stop came, and all slots are there again: what was asked for is counted anew from what was written
abbrev pub stopped : MemoryState → List Bool → List ℕ → Option ℕ → MemoryState
stopped bay keep failing stop_after = record bay {
  logged = survivors bay.clock keep bay.logged;
  failing = failing;
  stop_after = stop_after;
  unplugged = replicate 64 false;
  asked = bay.written;
  calls = 0;
}
