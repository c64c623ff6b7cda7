-- What is proved of each call of a history, and how it follows for one that takes the group.
use Rattle.std.proofs.Common.{◌≡◌, ⊎_elim, inl, ℕ, ◌≤◌, Bool, false, List, Ok, refl, sym, subst, arith}
use Rattle.ddf_bytes.specs.Streams.{SourceState}
use Rattle.ddf_bay.specs.Moments.{StopsLeave}
use Rattle.ddf_bay.specs.Sectors.{Image}
use Rattle.ddf_bay.specs.State.{BayState}
use Rattle.ddf_array.specs.Sound.{AreSectors}
use Rattle.ddf_plan.specs.declared.change.Change.{Change}
use Rattle.ddf_data_group.specs.Grouped.{Promises}
use Rattle.ddf_history.specs.Groups.{groups}
use Rattle.ddf_history.specs.History.{KeepsAcked}
use Rattle.ddf_history.specs.Issued.{Past}
use Rattle.ddf_seats.specs.Group.{GroupValue}
use Rattle.ddf_recovery.specs.Ready.{readied}
use Rattle.ddf_steps.specs.Steps.{Step}
use Rattle.ddf_history_steps.specs.Going.{Ends, Goes, changes_in}
use Rattle.ddf_history_steps.specs.Kept.{is_read}
use Rattle.ddf_history_steps.proofs.Acked.{ends_keeps, goes_keeps}
use Rattle.ddf_data_calls.specs.Calls.{AreBoth, IsBoth, KeepsBoth}
use Rattle.ddf_data_calls.specs.Floors.{HaveFloorsIn}
use Rattle.ddf_data_events.specs.Calls.{Course, Stepped, comes_in, ends_in, exit_in, may_promise_in, promises_in}
use Rattle.ddf_data_events.specs.Calls.Course.{Passing, Stepping}
use Rattle.ddf_data_events.specs.Moments.{KeepsAll, Moment}
use Rattle.ddf_data_events.proofs.Bays.{AreBays}
use Rattle.ddf_data_events.proofs.Floors.{floors_go, since_entry}

module _ {B : Type 0} {tells : Type 0} (told : tells) (disks : B → BayState B) {S : Type 0} (tells_bytes : Type 0) (streams : S → SourceState) (guid : List ℕ) (are : AreBays disks)
    (old : Moment guid B) (all : KeepsAll disks old) where
  -- By what a stop leaves of it, within it or at its end, the disks of the members that are then have their floors.
  abbrev pub HasFloorsBehind : (exit : B) → (Comes : Past (groups guid) → Type 0) → Type 0
  HasFloorsBehind exit Comes =
      (now : Past (groups guid)) → Comes now → (image : Image) → (disks exit).left_since (disks old.bay).moment image → HaveFloorsIn guid now (disks old.bay).sizes image old.floor

  -- It keeps the history and the data of the group, at its end and where a stop cuts it, with the floors of its disks. Its end is no earlier than its entry.
  pub record IsSound (course : Course told disks tells_bytes streams guid old) : Type 0 where
    pub later : (disks old.bay).moment ≤ (disks (exit_in told disks tells_bytes streams guid course)).moment
    pub ends : (disks (exit_in told disks tells_bytes streams guid course)).tells_left
        → AreBoth guid old.floor (disks (exit_in told disks tells_bytes streams guid course)) (ends_in told disks tells_bytes streams guid course) (promises_in told disks tells_bytes streams guid course)
    pub cuts : (image : Image) → (disks (exit_in told disks tells_bytes streams guid course)).left_since (disks old.bay).moment image → AreSectors image
        → IsBoth guid old.floor (disks old.bay).sizes (comes_in told disks tells_bytes streams guid course) (may_promise_in told disks tells_bytes streams guid course) image
    pub ends_floored : HasFloorsBehind (exit_in told disks tells_bytes streams guid course) (ends_in told disks tells_bytes streams guid course)
    pub cuts_floored : HasFloorsBehind (exit_in told disks tells_bytes streams guid course) (comes_in told disks tells_bytes streams guid course)

  -- where a stop leaves an image that it may have left before, or one behind which the call has come
  pub by_moment : {Comes Last : Past (groups guid) → Type 0} {May Is : Promises → Type 0} (exit : B) → KeepsBoth guid (disks old.bay) (disks exit) old.floor Comes Last May Is → Comes old.past → May old.promises
      → (image : Image) → (disks exit).left_since (disks old.bay).moment image → AreSectors image → IsBoth guid old.floor (disks old.bay).sizes Comes May image
  by_moment exit keeps first same image was_left sound = ⊎_elim
      (λ before.
      let left = (are old.bay).only_now image before in
      record { now = old.past; promised = old.promises; goes = first; may = same; is_kept = all.shows image left; keeps = all.keeps image left })
      (λ both. both sound)
      (keeps.any_moment.since (disks old.bay).moment image (omega arith) was_left)

  -- ---- a call that takes the group

  -- It has its floors where each image on its way has, for the changes of its steps,
  pub floored_by : (exit : B) (left : List Bool) (found : GroupValue) (asked : List Change) (timestamp : ℕ) (steps : List Step) → readied found asked timestamp ≡ Ok steps
      → StopsLeave (disks old.bay) (disks exit) (λ image. HaveFloorsIn guid old.past (disks old.bay).sizes image old.floor)
      → (whole : Bool) → HasFloorsBehind exit (Ends guid old.past (is_read left) found (changes_in found steps) whole)
  floored_by exit left found asked timestamp steps readied_so floors whole now ends image was_left =
      floors_go guid old.past now (is_read left) found asked timestamp steps readied_so whole ends (disks old.bay).sizes image old.floor
      (since_entry guid disks are old.past old.floor old.bay exit all.floored floors image was_left)

  -- and is sound where it keeps both, however far it came.
  pub stepped_sound : (by : Stepped told disks tells_bytes streams guid old)
      → KeepsBoth guid (disks old.bay) (disks by.exit) old.floor (Goes guid old.past (is_read by.left) by.finds.found by.issued) (Ends guid old.past (is_read by.left) by.finds.found by.issued by.done)
      by.may_promise by.promises_then
      → by.may_promise old.promises → ((whole : Bool) → HasFloorsBehind by.exit (Ends guid old.past (is_read by.left) by.finds.found by.issued whole)) → IsSound (Stepping by)
  stepped_sound by keeps first floored = record {
    later = keeps.any_moment.later;
    ends = keeps.ends;
    cuts = λ image was_left sound. by_moment by.exit keeps (inl refl) first image was_left sound;
    ends_floored = floored by.done;
    cuts_floored = floored false;
  }

  -- ---- one that doesn't

  pub same_past : (exit : B) → ((image : Image) → (disks exit).left_since (disks old.bay).moment image → HaveFloorsIn guid old.past (disks old.bay).sizes image old.floor)
      → HasFloorsBehind exit (λ now. now ≡ old.past)
  same_past exit floors now same image was_left =
      subst (λ (past : Past (groups guid)). HaveFloorsIn guid past (disks old.bay).sizes image old.floor) (sym same) (floors image was_left)

  -- ---- what was acknowledged stays

  none_issued : (now : Past (groups guid)) → now ≡ old.past → KeepsAcked old.past now
  none_issued now same = subst (KeepsAcked old.past) (sym same) (record { later = omega arith; same = λ i config le at. at })

  pub ends_acked : (course : Course told disks tells_bytes streams guid old) (now : Past (groups guid)) → ends_in told disks tells_bytes streams guid course now → KeepsAcked old.past now
  ends_acked (Stepping by) now end = ends_keeps guid old.past now (is_read by.left) by.finds.found by.issued by.done end
  ends_acked (Passing exit) now end = none_issued now end

  pub cuts_acked : (course : Course told disks tells_bytes streams guid old) (now : Past (groups guid)) → comes_in told disks tells_bytes streams guid course now → KeepsAcked old.past now
  cuts_acked (Stepping by) now come = goes_keeps guid old.past now (is_read by.left) by.finds.found by.issued come
  cuts_acked (Passing exit) now come = none_issued now come
