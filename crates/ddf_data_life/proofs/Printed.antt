-- A read over disks in memory prints what its history promises.
use Rattle.std.proofs.Common.{◌≡◌, ℕ, List, Some}
use Rattle.ddf_lemmas.proofs.Lists.{bytes_same}
use Rattle.ddf_bay.specs.Memory.{disks_of}
use Rattle.ddf_bay.specs.declared.memory.MemoryBay.{MemoryBay}
use Rattle.ddf_data_array.specs.Allowed.{Allowed}
use Rattle.ddf_data_calls.specs.Reading.{MayBe, blocks_printed}
use Rattle.ddf_data_calls.proofs.Printed.{printed_may}
use Rattle.ddf_history_memory.specs.Histories.{HasMemberOn}
use Rattle.ddf_history_memory.proofs.Slots.{before_told, reads_left}
use Rattle.ddf_data_events.specs.Moments.{Moment}
use Rattle.ddf_data_events.proofs.Floors.{by_held}
use Rattle.ddf_data_life.specs.Commands.{IsRead}
use Rattle.ddf_data_life.specs.Histories.{IsDataHistoryOn, LeavesLostOut}
use Rattle.ddf_data_life.proofs.Goes.{has_member, readable, shown}
use Rattle.ddf_data_life.proofs.Memory.{bays}

module _ (group : List ℕ) (old : Moment group MemoryBay) (exit : MemoryBay) (guid : List ℕ) (all : IsDataHistoryOn group old) (member : HasMemberOn group old.past old.bay)
    (read : IsRead group old.bay exit guid) (unread : LeavesLostOut group old.past read.has.left) (told : (disks_of exit).tells_left) where
  pub printed : (allowed : Allowed) → old.promises guid ≡ Some allowed → MayBe allowed read.start (blocks_printed read.outcome)
  printed allowed promised =
      let before = before_told old.bay exit read.well told in
      printed_may group (Unit {0}) tt (disks_of old.bay) (disks_of exit) old.past old.floor old.small old.promises (Some group) read.word read.start read.count read.outcome read.has (bytes_same group)
      (record {
        same_slots = all.history.same_slots;
        may_read = readable group old.past old.bay exit all.history read.well told read.has.left read.has.every_slot read.has.failed member unread;
        member = has_member group old.past old.bay exit all.history read.well told read.has.left read.has.every_slot read.has.failed member unread;
        is_kept = shown group old.past old.bay exit all.history read.well told read.has.left read.has.every_slot read.has.failed member unread;
        keeps = all.keeps.keeps (disks_of old.bay).held (reads_left old.bay before);
        have_floors = by_held group disks_of bays old.past old.floor old.bay all.keeps.floored before;
      })
      read.found read.is_found guid read.array allowed read.is_named promised
