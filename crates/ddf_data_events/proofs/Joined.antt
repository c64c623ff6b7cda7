-- A call by which another group joins keeps the history of its group and its data.
use Rattle.std.proofs.Common.{⊎_elim, inl, inr, ℕ, Bool, List, Some, refl, arith}
use Rattle.ddf_bytes.specs.Streams.{SourceState}
use Rattle.ddf_bay.specs.Sectors.{Image}
use Rattle.ddf_bay.specs.State.{BayState}
use Rattle.ddf_history.specs.Groups.{groups}
use Rattle.ddf_history.specs.Issued.{Past}
use Rattle.ddf_history_steps.specs.Going.{Ends, Goes}
use Rattle.ddf_history_steps.specs.Kept.{is_read}
use Rattle.ddf_data_history.specs.Carried.{Stays}
use Rattle.ddf_group_commands.specs.Change.{is_done}
use Rattle.ddf_command.specs.History.{kept_by_join}
use Rattle.ddf_data_calls.specs.Calls.{KeepsBoth}
use Rattle.ddf_data_calls.specs.Floors.{HaveFloorsIn}
use Rattle.ddf_data_events.specs.Calls.{JoinCall, by_join, joins_in}
use Rattle.ddf_data_events.specs.Calls.Course.{Stepping}
use Rattle.ddf_data_events.specs.Moments.{KeepsAll, Moment}
use Rattle.ddf_data_events.proofs.Bays.{AreBays, sectors}
use Rattle.ddf_data_events.proofs.JoinKept as kept
use Rattle.ddf_data_events.proofs.JoinKept.{IsImportOf}
use Rattle.ddf_data_events.proofs.Sound.{IsSound, stepped_sound}

module _ {B : Type 0} {tells : Type 0} (told : tells) (disks : B → BayState B) {S : Type 0} (tells_bytes : Type 0) (streams : S → SourceState) (guid : List ℕ) (are : AreBays disks)
    (old : Moment guid B) (all : KeepsAll disks old) (call : JoinCall told disks tells_bytes streams guid old) where
  pub took : IsImportOf guid (disks old.bay) (disks call.join.exit) old.past old.floor old.promises call.join.group call.join.joining call.join.timestamp call.join.made call.join.imported.first.left
      (is_done call.join.outcome)
  took =
      let join = call.join in
      record {
        small = old.small;
        every_slot = join.imported.first.every_slot;
        newest = join.imported.first.newest;
        read = join.imported.first.read told;
        named = join.named;
        is_found = join.is_group;
        own = join.same_group;
        admitted = join.admitted;
        all_kept = all.shows;
        all_data = all.keeps;
        floored = all.floored;
        held = (are old.bay).held call.tells_left;
        also_left = join.imported.second.left;
        also_newest = join.imported.second.newest;
        also_read = join.imported.second.read told;
        also_named = Some join.other;
        is_found_too = join.is_joining;
        their_floors = call.floors;
        none_promised = call.none_promised;
        are_asked = join.are_asked;
        leaves = join.imported.leaves told join.group join.joining join.is_group join.is_joining join.made join.are_asked;
        keeps = kept_by_join told disks guid (record { past = old.past; bay = old.bay }) join all.shows;
      }

  join_keeps : KeepsBoth guid (disks old.bay) (disks call.join.exit) old.floor (Goes guid old.past (is_read call.join.imported.first.left) call.join.group (joins_in told disks tells_bytes streams guid call))
      (Ends guid old.past (is_read call.join.imported.first.left) call.join.group (joins_in told disks tells_bytes streams guid call) (is_done call.join.outcome)) (Stays old.promises) (Stays old.promises)
  join_keeps =
      kept.join_keeps guid (disks old.bay) (disks call.join.exit) old.past old.floor old.promises call.join.group call.join.joining call.join.timestamp call.join.made call.join.imported.first.left (is_done call.join.outcome)
      took ((are old.bay).only_now) (λ image later left. (are call.join.exit).counts (disks old.bay).moment image later left) (λ image left. sectors disks are call.join.exit image left)

  -- The disks of members have their floors, however far it came.
  join_floored : (whole : Bool) (now : Past (groups guid)) → Ends guid old.past (is_read call.join.imported.first.left) call.join.group (joins_in told disks tells_bytes streams guid call) whole now
      → (image : Image) → (disks call.join.exit).left_since (disks old.bay).moment image → HaveFloorsIn guid now (disks old.bay).sizes image old.floor
  join_floored whole now ends image was_left =
      kept.join_floored guid (disks old.bay) (disks call.join.exit) old.past old.floor old.promises call.join.group call.join.joining call.join.timestamp call.join.made call.join.imported.first.left (is_done call.join.outcome)
      took whole now ends image
      (⊎_elim (λ before. inl ((are old.bay).only_now image before)) inr ((took).leaves.since (disks old.bay).moment image (omega arith) was_left))

  pub join_sound : IsSound told disks tells_bytes streams guid are old all (Stepping (by_join told disks tells_bytes streams guid call))
  join_sound = stepped_sound told disks tells_bytes streams guid are old all (by_join told disks tells_bytes streams guid call) join_keeps refl join_floored
