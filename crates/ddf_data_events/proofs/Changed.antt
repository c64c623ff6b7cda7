-- A call of a command that changes a group keeps its history and its data, with what is promised behind it.
use Rattle.std.proofs.Common.{◌≡◌, ◌∙◌, ℕ, Bool, true, false, List, [], ◌∷◌, Option, Some, Result, Ok, Err, refl, ap, subst}
use Rattle.std.specs.Prelude.{option_to_list}
use Rattle.ddf_bytes.specs.Streams.{SourceState}
use Rattle.ddf_bay.specs.Sectors.{Image, IsLeft}
use Rattle.ddf_bay.specs.State.{BayState}
use Rattle.ddf_array.specs.Sound.{AreSectors}
use Rattle.ddf_plan.specs.declared.change.Change.{Change}
use Rattle.ddf_plan.specs.declared.change.Change.TheVariants.{Create, Unmark}
use Rattle.ddf_data_group.specs.Grouped.{Promises}
use Rattle.ddf_history.specs.Groups.{groups}
use Rattle.ddf_history.specs.Issued.{Past}
use Rattle.ddf_seats.specs.Group.{GroupValue}
use Rattle.ddf_recovery.specs.Ready.{readied}
use Rattle.ddf_recovery.specs.Recovery.{config_recovered}
use Rattle.ddf_steps.specs.Steps.{Step}
use Rattle.ddf_history_steps.specs.Going.{Ends, Goes, changes_in}
use Rattle.ddf_history_steps.specs.Kept.{is_read}
use Rattle.ddf_data_history.specs.Carried.{IsAllData, Stays}
use Rattle.ddf_answer.specs.declared.failure.Failure.{Failure}
use Rattle.ddf_answer.specs.Call.{work_of}
use Rattle.ddf_group_commands.specs.Change.{HasChanged, Request, is_done, steps_of}
use Rattle.ddf_data_calls.specs.Calls.{AreBoth, KeepsBoth}
use Rattle.ddf_data_calls.proofs.Begun.{begun_keeps}
use Rattle.ddf_data_calls.proofs.Called as called
use Rattle.ddf_data_calls.proofs.Called.{TookGroup, took_group}
use Rattle.ddf_data_calls.specs.Agreed.{DoDisksAgree}
use Rattle.ddf_data_calls.specs.Promised.{counted}
use Rattle.ddf_data_calls.proofs.Accepts.{accepted_counts}
use Rattle.ddf_data_events.specs.Calls.{AcceptCall, ChangeCall, Finds, by_accept, by_change, once_accepted, once_changed}
use Rattle.ddf_data_events.specs.Calls.Course.{Stepping}
use Rattle.ddf_data_events.specs.Moments.{KeepsAll, Moment}
use Rattle.ddf_data_events.proofs.Bays.{AreBays, held_sectors, sectors}
use Rattle.ddf_bay.specs.Moments.{StopsLeave}
use Rattle.ddf_bay.proofs.Steps.{stops_weaken}
use Rattle.ddf_data_calls.specs.Floors.{HaveFloorsIn}
use Rattle.ddf_data_calls.proofs.First.{IsCalled}
use Rattle.ddf_data_calls.proofs.Floored.{writing_own}
use Rattle.ddf_data_events.proofs.Floors.{by_held}
use Rattle.ddf_data_events.proofs.Sound.{HasFloorsBehind, IsSound, floored_by, stepped_sound}
use Rattle.ddf_write_commands.proofs.StepFloors.{readied_floors}

-- Behind a change that was done an array that it created may have any bytes.
module _ (guid : List ℕ) {D : Type 0} (disks : BayState D) (past : Past (groups guid)) (readable : ℕ → Bool) (found : GroupValue) (timestamp : ℕ) (steps : List Step) (floor : ℕ → ℕ)
    (are : (image : Image) → IsLeft disks.may_hold image → AreSectors image) (promises : Promises) where
  then_promised : {B S : Type 0} {tells : Type 0} (told : tells) (bays : B → BayState B) (tells_bytes : Type 0) (streams : S → SourceState)
      → (change : Option Change) (done : Bool) → readied found (option_to_list change) timestamp ≡ Ok steps
      → AreBoth guid floor disks (Ends guid past readable found (changes_in found steps) done) (Stays promises)
      → AreBoth guid floor disks (Ends guid past readable found (changes_in found steps) done) (λ promised. promised ≡ once_changed told bays tells_bytes streams guid change done promises)
  then_promised told bays tells_bytes streams (Some (Create created array)) true readied both = record {
    now = both.now;
    promised = once_changed told bays tells_bytes streams guid (Some (Create created array)) true promises;
    ends = both.ends;
    is_so = refl;
    all_kept = both.all_kept;
    all_data = λ image left.
        begun_keeps guid past both.now readable found created array timestamp steps readied both.ends floor image (are image left) promises
        (subst (λ (p : Promises). IsAllData guid both.now floor disks p) both.is_so both.all_data image left);
  }
  then_promised told bays tells_bytes streams change done readied both = record {
    now = both.now;
    promised = both.promised;
    ends = both.ends;
    is_so = both.is_so;
    all_kept = both.all_kept;
    all_data = both.all_data;
  }

module _ {B : Type 0} {tells : Type 0} (told : tells) (disks : B → BayState B) {S : Type 0} (tells_bytes : Type 0) (streams : S → SourceState) (guid : List ℕ) (are : AreBays disks)
    (old : Moment guid B) (all : KeepsAll disks old) (call : ChangeCall told disks tells_bytes streams guid old) where
  took : TookGroup (disks old.bay) (disks call.exit) call.changed.taken.left call.changed.taken.newest call.named call.finds.found call.steps call.outcome
  took = took_group tells told (disks old.bay) (disks call.exit) call.named call.timestamp call.request call.outcome call.changed call.finds.found call.finds.is_found call.steps call.are_asked

  change_keeps : KeepsBoth guid (disks old.bay) (disks call.exit) old.floor (Goes guid old.past (is_read call.changed.taken.left) call.finds.found (changes_in call.finds.found call.steps))
      (Ends guid old.past (is_read call.changed.taken.left) call.finds.found (changes_in call.finds.found call.steps) (is_done call.outcome)) (Stays old.promises) (Stays old.promises)
  change_keeps =
      called.keeps_both guid (disks old.bay) (disks call.exit) old.past old.floor old.small call.changed.taken.left call.changed.taken.newest call.named call.finds.found call.steps call.outcome
      took call.finds.own call.finds.admitted (by_held guid disks are old.past old.floor old.bay all.floored call.finds.tells_left) call.timestamp call.request call.are_asked call.change call.is_change old.promises all.keeps call.may all.shows
      ((are old.bay).only_now) (λ image later left. (are call.exit).counts (disks old.bay).moment image later left) (λ image left. sectors disks are call.exit image left)

  change_readied : readied call.finds.found (option_to_list call.change) call.timestamp ≡ Ok call.steps
  change_readied =
      called.are guid (disks old.bay) (disks call.exit) old.past old.floor old.small call.changed.taken.left call.changed.taken.newest call.named call.finds.found call.steps call.outcome
      took call.finds.own call.finds.admitted (by_held guid disks are old.past old.floor old.bay all.floored call.finds.tells_left) call.timestamp call.request call.are_asked call.change call.is_change

  called_group : IsCalled guid (disks old.bay) old.past old.floor old.promises call.changed.taken.left call.changed.taken.newest call.named call.finds.found
  called_group = record {
    small = old.small;
    long = call.changed.taken.every_slot;
    read = call.changed.taken.read told;
    is_found = call.finds.is_found;
    own = call.finds.own;
    admitted = call.finds.admitted;
    floors = by_held guid disks are old.past old.floor old.bay all.floored call.finds.tells_left;
    all = all.keeps;
    told = (are old.bay).held call.finds.tells_left;
    whole = held_sectors disks are old.bay call.finds.tells_left;
  }

  -- The disks of members keep their floors.
  change_floors : StopsLeave (disks old.bay) (disks call.exit) (λ image. HaveFloorsIn guid old.past (disks old.bay).sizes image old.floor)
  change_floors = stops_weaken (took).leaves (λ image writing slot number config since stays current.
      writing_own guid (disks old.bay) old.past old.floor old.promises call.changed.taken.left call.changed.taken.newest call.named call.finds.found called_group all.floored
      slot number config since stays current call.steps (readied_floors call.finds.found call.timestamp (option_to_list call.change) call.steps change_readied) (disks old.bay) image refl writing
      (all.floored slot number config since stays current (writing.before slot) (λ l. writing.is_left slot l)))

  change_ends : (disks call.exit).tells_left → AreBoth guid old.floor (disks call.exit)
      (Ends guid old.past (is_read call.changed.taken.left) call.finds.found (changes_in call.finds.found call.steps) (is_done call.outcome))
      (λ promised. promised ≡ once_changed told disks tells_bytes streams guid call.change (is_done call.outcome) old.promises)
  change_ends tells_left =
      then_promised guid (disks call.exit) old.past (is_read call.changed.taken.left) call.finds.found call.timestamp call.steps old.floor (λ image left. sectors disks are call.exit image left) old.promises
      told disks tells_bytes streams call.change (is_done call.outcome)
      change_readied
      (change_keeps.ends tells_left)

  change_floored : (whole : Bool) → HasFloorsBehind told disks tells_bytes streams guid are old all call.exit
      (Ends guid old.past (is_read call.changed.taken.left) call.finds.found (changes_in call.finds.found call.steps) whole)
  change_floored =
      floored_by told disks tells_bytes streams guid are old all call.exit call.changed.taken.left call.finds.found (option_to_list call.change) call.timestamp call.steps change_readied change_floors

  pub change_sound : IsSound told disks tells_bytes streams guid are old all (Stepping (by_change told disks tells_bytes streams guid call))
  change_sound =
      stepped_sound told disks tells_bytes streams guid are old all (by_change told disks tells_bytes streams guid call) (record { any_moment = change_keeps.any_moment; ends = change_ends }) refl change_floored

-- ---- `accept`

module _ {B : Type 0} {tells : Type 0} (told : tells) (disks : B → BayState B) {S : Type 0} (tells_bytes : Type 0) (streams : S → SourceState) (guid : List ℕ) (are : AreBays disks)
    (old : Moment guid B) (all : KeepsAll disks old) where
  -- where it was done, and what its blocks have counts
  counts_by : (exit : B) (named : Option (List ℕ)) (timestamp : ℕ) (request : Request) (outcome : Result ℕ Failure) (changed : HasChanged (work_of tells (disks old.bay) (disks exit)) named timestamp request outcome)
      → (finds : Finds told disks tells_bytes streams guid old changed.taken.left changed.taken.newest named) (steps : List Step) → steps_of finds.found timestamp request ≡ Ok steps
      → (array : List ℕ) (init : ℕ) → request (config_recovered finds.found) finds.found.seats ≡ Ok (Unmark array init ∷ []) → (agree : DoDisksAgree finds.found array (disks old.bay).held) → is_done outcome ≡ true
      → AreBoth guid old.floor (disks exit) (Ends guid old.past (is_read changed.taken.left) finds.found (changes_in finds.found steps) (is_done outcome)) (Stays old.promises)
      → AreBoth guid old.floor (disks exit) (Ends guid old.past (is_read changed.taken.left) finds.found (changes_in finds.found steps) (is_done outcome))
      (λ promised. promised ≡ counted array agree.volume (disks exit).held old.promises)
  counts_by exit named timestamp request (Err failure) changed finds steps are_asked array init asks agree done both = absurd cc
  counts_by exit named timestamp request (Ok sequence) changed finds steps are_asked array init asks agree done both =
      accepted_counts tells told (disks old.bay) (disks exit) guid old.past old.floor old.small old.promises named timestamp request sequence changed finds.found finds.is_found finds.own steps are_asked
      (record { all_kept = all.shows; admitted = finds.admitted; all_data = all.keeps; have_floors = by_held guid disks are old.past old.floor old.bay all.floored finds.tells_left }) array init asks ((are old.bay).held finds.tells_left)
      (held_sectors disks are old.bay finds.tells_left) agree (λ image left. sectors disks are exit image left) both

  accept_ends : (accept : AcceptCall told disks tells_bytes streams guid old) → (disks accept.call.exit).tells_left → AreBoth guid old.floor (disks accept.call.exit)
      (Ends guid old.past (is_read accept.call.changed.taken.left) accept.call.finds.found (changes_in accept.call.finds.found accept.call.steps) (is_done accept.call.outcome))
      (λ promised. promised ≡ once_accepted told disks tells_bytes streams guid accept (is_done accept.call.outcome))
  accept_ends accept tells_left = by (is_done accept.call.outcome) refl
    where
      by : (done : Bool) → is_done accept.call.outcome ≡ done → AreBoth guid old.floor (disks accept.call.exit)
          (Ends guid old.past (is_read accept.call.changed.taken.left) accept.call.finds.found (changes_in accept.call.finds.found accept.call.steps) (is_done accept.call.outcome))
          (λ promised. promised ≡ once_accepted told disks tells_bytes streams guid accept done)
      by true done =
          counts_by accept.call.exit accept.call.named accept.call.timestamp accept.call.request accept.call.outcome accept.call.changed accept.call.finds accept.call.steps accept.call.are_asked accept.array accept.init
          (accept.call.is_change ∙ ap (λ (change : Option Change). Ok (option_to_list change)) accept.is_accept) accept.agree done
          ((change_keeps told disks tells_bytes streams guid are old all accept.call).ends tells_left)
      by false done = (change_keeps told disks tells_bytes streams guid are old all accept.call).ends tells_left

  pub accept_sound : (accept : AcceptCall told disks tells_bytes streams guid old) → IsSound told disks tells_bytes streams guid are old all (Stepping (by_accept told disks tells_bytes streams guid accept))
  accept_sound accept =
      stepped_sound told disks tells_bytes streams guid are old all (by_accept told disks tells_bytes streams guid accept)
      (record { any_moment = (change_keeps told disks tells_bytes streams guid are old all accept.call).any_moment; ends = accept_ends accept }) refl
      (change_floored told disks tells_bytes streams guid are old all accept.call)
