-- Calls of the commands on the blocks of an array keep the history of the group and its data, with what is promised behind them.
use Rattle.std.proofs.Common.{◌≡◌, ◌&&◌, inl, ℕ, Bool, true, false, List, ◌++◌, length, Option, Result, Ok, Err, refl}
use Rattle.ddf_bytes.specs.Streams.{SourceState}
use Rattle.ddf_bay.specs.State.{BayState}
use Rattle.ddf_array.specs.Volume.{IsVolume}
use Rattle.ddf_array.specs.Within.{is_within}
use Rattle.ddf_plan.specs.declared.change.Change.{Change}
use Rattle.ddf_copy.specs.declared.newest_copy.Newest.{Newest}
use Rattle.ddf_history.specs.Groups.{groups}
use Rattle.ddf_history.specs.Issued.{Past}
use Rattle.ddf_history_steps.specs.Going.{Ends, Goes, changes_in}
use Rattle.ddf_history_steps.specs.Kept.{is_read}
use Rattle.ddf_data_history.specs.Carried.{Stays}
use Rattle.ddf_answer.specs.declared.failure.Failure.{Failure}
use Rattle.ddf_answer.specs.Call.{input_of, work_of}
use Rattle.ddf_group_commands.specs.Change.{is_done}
use Rattle.ddf_write_commands.specs.Planned.{IsPlanned}
use Rattle.ddf_write_commands.specs.Resync.{HasResyncedArray, resync_request}
use Rattle.ddf_data_calls.specs.Calls.{AdmitsCall, AreBoth, KeepsBoth}
use Rattle.ddf_data_calls.specs.Promised.{IsWrittenOf, MayBeWritten, counted}
use Rattle.ddf_group_commands.specs.Requests.{linux_members}
use Rattle.ddf_rebuild_command.specs.Asked.{rebuild_request}
use Rattle.ddf_rebuild_command.specs.GoingBack.{copyback_request}
use Rattle.ddf_data_calls.proofs.GoneBack as copybacks
use Rattle.ddf_data_calls.proofs.Rebuilt as rebuilds
use Rattle.ddf_data_calls.proofs.Rebuilt.{asked_changes}
use Rattle.ddf_data_calls.proofs.Resynced as resyncs
use Rattle.ddf_data_calls.proofs.Resynced.{then_settled}
use Rattle.ddf_data_calls.proofs.Taken as writes
use Rattle.ddf_data_events.specs.Calls.{CopybackCall, Finds, RebuildCall, ResyncCall, WriteCall, by_copyback, by_rebuild, by_resync, by_write, once_resynced}
use Rattle.ddf_data_events.specs.Calls.Course.{Stepping}
use Rattle.ddf_data_events.specs.Moments.{KeepsAll, Moment}
use Rattle.ddf_data_events.proofs.Bays.{AreBays, held_sectors, sectors}
use Rattle.std.specs.Prelude.{option_to_list}
use Rattle.ddf_bay.specs.Moments.{StopsLeave}
use Rattle.ddf_recovery.specs.Ready.{readied}
use Rattle.ddf_write_commands.specs.Resync.{resync_behind}
use Rattle.ddf_assembly.specs.Group.{group_of}
use Rattle.ddf_write_commands.specs.Along.{GoesAlong}
use Rattle.ddf_write_commands.specs.Write.{is_written, write_behind, write_request, writing}
use Rattle.ddf_data_calls.specs.Floors.{HaveFloorsIn}
use Rattle.ddf_data_calls.proofs.Accepted.{mark_of}
use Rattle.ddf_data_events.proofs.Floors.{by_held}
use Rattle.ddf_data_events.proofs.Sound.{IsSound, floored_by, stepped_sound}

module _ {B : Type 0} {tells : Type 0} (told : tells) (disks : B → BayState B) {S : Type 0} (tells_bytes : Type 0) (streams : S → SourceState) (guid : List ℕ) (are : AreBays disks)
    (old : Moment guid B) (all : KeepsAll disks old) where
  admits : (left : List Bool) (newest : List (Option Newest)) (named : Option (List ℕ)) (finds : Finds told disks tells_bytes streams guid old left newest named)
      → AdmitsCall guid old.past old.floor old.promises (disks old.bay) left finds.found
  admits left newest named finds = record { all_kept = all.shows; admitted = finds.admitted; all_data = all.keeps; have_floors = by_held guid disks are old.past old.floor old.bay all.floored finds.tells_left }

  -- ---- `resync`

  module _ (call : ResyncCall told disks tells_bytes streams guid old) where
    abbrev Comes : Past (groups guid) → Type 0
    Comes = Goes guid old.past (is_read call.resynced.taken.left) call.finds.found (changes_in call.finds.found (call.plan.first ++ call.plan.last))

    resync_keeps : KeepsBoth guid (disks old.bay) (disks call.exit) old.floor (Goes guid old.past (is_read call.resynced.taken.left) call.finds.found (changes_in call.finds.found (call.plan.first ++ call.plan.last)))
        (Ends guid old.past (is_read call.resynced.taken.left) call.finds.found (changes_in call.finds.found (call.plan.first ++ call.plan.last)) (is_done call.outcome)) (Stays old.promises) (Stays old.promises)
    resync_keeps =
        resyncs.both_kept tells told (disks old.bay) (disks call.exit) guid old.past old.floor old.small old.promises call.named call.timestamp call.word call.outcome call.resynced call.finds.found
        call.finds.is_found call.finds.own (admits call.resynced.taken.left call.resynced.taken.newest call.named call.finds) ((are old.bay).held call.finds.tells_left)
        (held_sectors disks are old.bay call.finds.tells_left) call.plan (λ image left. sectors disks are call.exit image left)
        (call.resynced.along told call.finds.found call.finds.is_found call.plan guid call.finds.own old.past all.shows call.finds.admitted)

    -- The disks of members keep their floors.
    resync_floors : StopsLeave (disks old.bay) (disks call.exit) (λ image. HaveFloorsIn guid old.past (disks old.bay).sizes image old.floor)
    resync_floors =
        resyncs.floors_kept tells told (disks old.bay) (disks call.exit) guid old.past old.floor old.small old.promises call.named call.timestamp call.word call.outcome call.resynced call.finds.found
        call.finds.is_found call.finds.own (admits call.resynced.taken.left call.resynced.taken.newest call.named call.finds) ((are old.bay).held call.finds.tells_left)
        (held_sectors disks are old.bay call.finds.tells_left) call.plan (λ image left. sectors disks are call.exit image left) all.floored
        (call.resynced.along told call.finds.found call.finds.is_found call.plan guid call.finds.own old.past all.shows call.finds.admitted)

    resync_readied : readied call.finds.found (option_to_list (mark_of call.plan.entry) ++ resync_behind call.plan.entry) call.timestamp ≡ Ok (call.plan.first ++ call.plan.last)
    resync_readied =
        resyncs.are_readied tells told (disks old.bay) (disks call.exit) guid old.past old.floor old.small old.promises call.named call.timestamp call.word call.outcome call.resynced call.finds.found
        call.finds.is_found call.finds.own (admits call.resynced.taken.left call.resynced.taken.newest call.named call.finds) ((are old.bay).held call.finds.tells_left)
        (held_sectors disks are old.bay call.finds.tells_left) call.plan (λ image left. sectors disks are call.exit image left)

    pub resync_within : (is_within call.plan.volume ≡ true) × IsVolume call.plan.volume
    resync_within =
        resyncs.was_within tells told (disks old.bay) (disks call.exit) guid old.past old.floor old.small old.promises call.named call.timestamp call.word call.outcome call.resynced call.finds.found
        call.finds.is_found call.finds.own (admits call.resynced.taken.left call.resynced.taken.newest call.named call.finds) ((are old.bay).held call.finds.tells_left)
        (held_sectors disks are old.bay call.finds.tells_left) call.plan (λ image left. sectors disks are call.exit image left)

  -- where it was done, and what its blocks have counts
  counts_by : (exit : B) (named : Option (List ℕ)) (timestamp : ℕ) (word : List ℕ) (outcome : Result ℕ Failure) (resynced : HasResyncedArray (work_of tells (disks old.bay) (disks exit)) named timestamp word outcome)
      → (finds : Finds told disks tells_bytes streams guid old resynced.taken.left resynced.taken.newest named) (plan : IsPlanned finds.found timestamp word (resync_request word))
      → (disks exit).tells_left → is_done outcome ≡ true
      → AreBoth guid old.floor (disks exit) (Ends guid old.past (is_read resynced.taken.left) finds.found (changes_in finds.found (plan.first ++ plan.last)) (is_done outcome))
      (λ promised. promised ≡ counted plan.entry.0 plan.volume (disks exit).held old.promises)
  counts_by exit named timestamp word (Err failure) resynced finds plan tells_left done = absurd cc
  counts_by exit named timestamp word (Ok sequence) resynced finds plan tells_left done =
      resyncs.counts tells told (disks old.bay) (disks exit) guid old.past old.floor old.small old.promises named timestamp word (Ok sequence) resynced finds.found
      finds.is_found finds.own (admits resynced.taken.left resynced.taken.newest named finds) ((are old.bay).held finds.tells_left)
      (held_sectors disks are old.bay finds.tells_left) plan (λ image left. sectors disks are exit image left)
      (then_settled tells told (disks old.bay) (disks exit) named timestamp word sequence resynced finds.found finds.is_found) tells_left
      (resynced.along told finds.found finds.is_found plan guid finds.own old.past all.shows finds.admitted)

  resync_ends : (call : ResyncCall told disks tells_bytes streams guid old) → (disks call.exit).tells_left → AreBoth guid old.floor (disks call.exit)
      (Ends guid old.past (is_read call.resynced.taken.left) call.finds.found (changes_in call.finds.found (call.plan.first ++ call.plan.last)) (is_done call.outcome))
      (λ promised. promised ≡ once_resynced told disks tells_bytes streams guid call (call.counts && is_done call.outcome))
  resync_ends call tells_left = by call.counts (is_done call.outcome) refl
    where
      by : (counts done : Bool) → is_done call.outcome ≡ done → AreBoth guid old.floor (disks call.exit)
          (Ends guid old.past (is_read call.resynced.taken.left) call.finds.found (changes_in call.finds.found (call.plan.first ++ call.plan.last)) (is_done call.outcome))
          (λ promised. promised ≡ once_resynced told disks tells_bytes streams guid call (counts && done))
      by true true done = counts_by call.exit call.named call.timestamp call.word call.outcome call.resynced call.finds call.plan tells_left done
      by true false done = (resync_keeps call).ends tells_left
      by false counts done = (resync_keeps call).ends tells_left

  pub resync_sound : (call : ResyncCall told disks tells_bytes streams guid old) → IsSound told disks tells_bytes streams guid are old all (Stepping (by_resync told disks tells_bytes streams guid call))
  resync_sound call =
      stepped_sound told disks tells_bytes streams guid are old all (by_resync told disks tells_bytes streams guid call) (record { any_moment = (resync_keeps call).any_moment; ends = resync_ends call }) refl
      (floored_by told disks tells_bytes streams guid are old all call.exit call.resynced.taken.left call.finds.found (option_to_list (mark_of call.plan.entry) ++ resync_behind call.plan.entry) call.timestamp
      (call.plan.first ++ call.plan.last) (resync_readied call) (resync_floors call))

  -- ---- `write`

  write_along : (call : WriteCall told disks tells_bytes streams guid old)
      → GoesAlong (writing call.start call.sectors) (work_of tells (disks old.bay) (disks call.exit)) call.wrote.taken.left call.timestamp call.word (write_request call.word call.start call.count) (is_written call.outcome)
      (group_of call.wrote.taken.newest call.named)
  write_along call =
      writes.given_along (work_of tells (disks old.bay) (disks call.exit)) (input_of tells_bytes (streams call.source_old) (streams call.source_new)) call.timestamp call.word call.start call.count call.wrote.taken.left (group_of call.wrote.taken.newest call.named) call.sectors call.outcome call.given
      (call.wrote.along told)

  write_keeps : (call : WriteCall told disks tells_bytes streams guid old) → KeepsBoth guid (disks old.bay) (disks call.exit) old.floor
      (Goes guid old.past (is_read call.wrote.taken.left) call.finds.found (changes_in call.finds.found (call.plan.first ++ call.plan.last)))
      (Ends guid old.past (is_read call.wrote.taken.left) call.finds.found (changes_in call.finds.found (call.plan.first ++ call.plan.last)) (is_written call.outcome))
      (MayBeWritten call.plan.entry.0 call.start call.sectors old.promises) (IsWrittenOf (is_written call.outcome) call.plan.entry.0 call.start call.sectors old.promises)
  write_keeps call =
      writes.both_kept tells told (disks old.bay) (disks call.exit) guid old.past old.floor old.small old.promises (input_of tells_bytes (streams call.source_old) (streams call.source_new))
      call.named call.timestamp call.word call.start call.count call.sectors call.outcome call.wrote call.finds.found
      call.finds.is_found call.finds.own (admits call.wrote.taken.left call.wrote.taken.newest call.named call.finds) ((are old.bay).held call.finds.tells_left)
      (held_sectors disks are old.bay call.finds.tells_left) call.plan (λ image left. sectors disks are call.exit image left)
      (write_along call call.finds.found call.finds.is_found call.plan guid call.finds.own old.past all.shows call.finds.admitted)

  -- The disks of members keep their floors.
  write_floors : (call : WriteCall told disks tells_bytes streams guid old) → StopsLeave (disks old.bay) (disks call.exit) (λ image. HaveFloorsIn guid old.past (disks old.bay).sizes image old.floor)
  write_floors call =
      writes.floors_kept tells told (disks old.bay) (disks call.exit) guid old.past old.floor old.small old.promises (input_of tells_bytes (streams call.source_old) (streams call.source_new))
      call.named call.timestamp call.word call.start call.count call.sectors call.outcome call.wrote call.finds.found
      call.finds.is_found call.finds.own (admits call.wrote.taken.left call.wrote.taken.newest call.named call.finds) ((are old.bay).held call.finds.tells_left)
      (held_sectors disks are old.bay call.finds.tells_left) call.plan (λ image left. sectors disks are call.exit image left) all.floored
      (write_along call call.finds.found call.finds.is_found call.plan guid call.finds.own old.past all.shows call.finds.admitted)

  write_readied : (call : WriteCall told disks tells_bytes streams guid old)
      → readied call.finds.found (option_to_list (mark_of call.plan.entry) ++ write_behind call.plan.entry) call.timestamp ≡ Ok (call.plan.first ++ call.plan.last)
  write_readied call =
      writes.are_readied tells told (disks old.bay) (disks call.exit) guid old.past old.floor old.small old.promises (input_of tells_bytes (streams call.source_old) (streams call.source_new))
      call.named call.timestamp call.word call.start call.count call.sectors call.outcome call.wrote call.finds.found
      call.finds.is_found call.finds.own (admits call.wrote.taken.left call.wrote.taken.newest call.named call.finds) ((are old.bay).held call.finds.tells_left)
      (held_sectors disks are old.bay call.finds.tells_left) call.plan (λ image left. sectors disks are call.exit image left)

  pub write_sound : (call : WriteCall told disks tells_bytes streams guid old) → IsSound told disks tells_bytes streams guid are old all (Stepping (by_write told disks tells_bytes streams guid call))
  write_sound call =
      stepped_sound told disks tells_bytes streams guid are old all (by_write told disks tells_bytes streams guid call) (write_keeps call) (inl refl)
      (floored_by told disks tells_bytes streams guid are old all call.exit call.wrote.taken.left call.finds.found (option_to_list (mark_of call.plan.entry) ++ write_behind call.plan.entry) call.timestamp
      (call.plan.first ++ call.plan.last) (write_readied call) (write_floors call))

  -- ---- `rebuild`

  module _ (call : RebuildCall told disks tells_bytes streams guid old) where
    rebuild_keeps : KeepsBoth guid (disks old.bay) (disks call.exit) old.floor (Goes guid old.past (is_read call.rebuilt.taken.left) call.finds.found (changes_in call.finds.found call.steps))
        (Ends guid old.past (is_read call.rebuilt.taken.left) call.finds.found (changes_in call.finds.found call.steps) (is_done call.outcome)) (Stays old.promises) (Stays old.promises)
    rebuild_keeps =
        rebuilds.both_kept tells told (disks old.bay) (disks call.exit) guid old.past old.floor old.small old.promises call.named call.timestamp call.word call.outcome call.rebuilt call.finds.found
        call.finds.is_found call.finds.own (admits call.rebuilt.taken.left call.rebuilt.taken.newest call.named call.finds) ((are old.bay).held call.finds.tells_left)
        (held_sectors disks are old.bay call.finds.tells_left) ((are old.bay).only_now) ((are old.bay).counts) ((are call.exit).counts) (λ image left. sectors disks are call.exit image left) ((are call.exit).since)
        call.steps call.are_asked

    -- The disks of members keep their floors.
    rebuild_floors : StopsLeave (disks old.bay) (disks call.exit) (λ image. HaveFloorsIn guid old.past (disks old.bay).sizes image old.floor)
    rebuild_floors =
        rebuilds.floors_kept tells told (disks old.bay) (disks call.exit) guid old.past old.floor old.small old.promises call.named call.timestamp call.word call.outcome call.rebuilt call.finds.found
        call.finds.is_found call.finds.own (admits call.rebuilt.taken.left call.rebuilt.taken.newest call.named call.finds) ((are old.bay).held call.finds.tells_left)
        (held_sectors disks are old.bay call.finds.tells_left) ((are old.bay).only_now) ((are old.bay).counts) ((are call.exit).counts) (λ image left. sectors disks are call.exit image left) ((are call.exit).since)
        call.steps call.are_asked all.floored

    rebuild_readied : (changes : List Change) × (readied call.finds.found changes call.timestamp ≡ Ok call.steps)
    rebuild_readied = asked_changes call.finds.found call.timestamp (rebuild_request call.word (linux_members call.finds.found)) call.steps call.are_asked

    pub rebuild_sound : IsSound told disks tells_bytes streams guid are old all (Stepping (by_rebuild told disks tells_bytes streams guid call))
    rebuild_sound =
        stepped_sound told disks tells_bytes streams guid are old all (by_rebuild told disks tells_bytes streams guid call) rebuild_keeps refl
        (floored_by told disks tells_bytes streams guid are old all call.exit call.rebuilt.taken.left call.finds.found rebuild_readied.0 call.timestamp call.steps rebuild_readied.1 rebuild_floors)

  -- ---- `copyback`

  module _ (call : CopybackCall told disks tells_bytes streams guid old) where
    copyback_keeps : KeepsBoth guid (disks old.bay) (disks call.exit) old.floor (Goes guid old.past (is_read call.copied.taken.left) call.finds.found (changes_in call.finds.found call.steps))
        (Ends guid old.past (is_read call.copied.taken.left) call.finds.found (changes_in call.finds.found call.steps) (is_done call.outcome)) (Stays old.promises) (Stays old.promises)
    copyback_keeps =
        copybacks.both_kept tells told (disks old.bay) (disks call.exit) guid old.past old.floor old.small old.promises call.named call.timestamp call.word call.slot call.outcome call.copied call.finds.found
        call.finds.is_found call.finds.own (admits call.copied.taken.left call.copied.taken.newest call.named call.finds) ((are old.bay).held call.finds.tells_left)
        (held_sectors disks are old.bay call.finds.tells_left) (λ image left. sectors disks are call.exit image left) ((are call.exit).since) call.steps call.are_asked

    -- The disks of members keep their floors.
    copyback_floors : StopsLeave (disks old.bay) (disks call.exit) (λ image. HaveFloorsIn guid old.past (disks old.bay).sizes image old.floor)
    copyback_floors =
        copybacks.floors_kept tells told (disks old.bay) (disks call.exit) guid old.past old.floor old.small old.promises call.named call.timestamp call.word call.slot call.outcome call.copied call.finds.found
        call.finds.is_found call.finds.own (admits call.copied.taken.left call.copied.taken.newest call.named call.finds) ((are old.bay).held call.finds.tells_left)
        (held_sectors disks are old.bay call.finds.tells_left) (λ image left. sectors disks are call.exit image left) ((are call.exit).since) call.steps call.are_asked all.floored

    copyback_readied : (changes : List Change) × (readied call.finds.found changes call.timestamp ≡ Ok call.steps)
    copyback_readied =
        asked_changes call.finds.found call.timestamp (copyback_request (length (disks old.bay).sizes) call.word call.slot (linux_members call.finds.found)) call.steps call.are_asked

    pub copyback_sound : IsSound told disks tells_bytes streams guid are old all (Stepping (by_copyback told disks tells_bytes streams guid call))
    copyback_sound =
        stepped_sound told disks tells_bytes streams guid are old all (by_copyback told disks tells_bytes streams guid call) copyback_keeps refl
        (floored_by told disks tells_bytes streams guid are old all call.exit call.copied.taken.left call.finds.found copyback_readied.0 call.timestamp call.steps copyback_readied.1 copyback_floors)
