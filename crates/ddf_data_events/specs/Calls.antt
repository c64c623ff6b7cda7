-- The calls of a history of a group and of its data: those that the program makes, by what it promises of them.
use Rattle.std.specs.Prelude.{◌≡◌, ◌&&◌, ℕ, ◌<◌, Bool, true, false, List, [], ◌++◌, Option, Some, Result, Ok, length, option_to_list, IsTrue, slice_index_or}
use Rattle.ddf_bytes.specs.Streams.{SourceState}
use Rattle.ddf_bay.specs.ReadsOnly.{LookFailed, ReadsOnly}
use Rattle.ddf_bay.specs.Sectors.{Image, IsLeft}
use Rattle.ddf_bay.specs.State.{BayState}
use Rattle.ddf_config.specs.Configuration.{Configuration}
use Rattle.ddf_copy.specs.declared.newest_copy.Newest.{Newest}
use Rattle.ddf_plan.specs.declared.change.Change.{Change}
use Rattle.ddf_plan.specs.declared.change.Change.TheVariants.{Create, Unmark}
use Rattle.ddf_data_array.specs.Allowed.{any_bytes}
use Rattle.ddf_data_group.specs.Grouped.{Promises}
use Rattle.ddf_history.specs.Groups.{groups, has_current}
use Rattle.ddf_history.specs.Issued.{IsSince, Past}
use Rattle.ddf_seats.specs.Group.{GroupValue}
use Rattle.ddf_assembly.specs.Group.{group_of}
use Rattle.ddf_assembly.specs.Slots.{newest_from}
use Rattle.ddf_recovery.specs.Recovery.{config_recovered}
use Rattle.ddf_steps.specs.Steps.{Step}
use Rattle.ddf_history_steps.specs.Going.{Ends, Goes, IsAdmitted, changes_in}
use Rattle.ddf_history_steps.specs.Kept.{is_read, is_slot}
use Rattle.ddf_data_history.specs.Carried.{Stays}
use Rattle.ddf_data_history.specs.Promised.{with_promise}
use Rattle.ddf_answer.specs.declared.failure.Failure.{Failure}
use Rattle.ddf_answer.specs.Call.{input_of, work_of}
use Rattle.ddf_group_commands.specs.Change.{HasChanged, Request, TakesGroup, is_done, steps_of}
use Rattle.ddf_write_commands.specs.Planned.{IsPlanned}
use Rattle.ddf_write_commands.specs.Resync.{HasResyncedArray, resync_request}
use Rattle.ddf_write_commands.specs.Write.{HasWrittenArray, Outcome, is_written, write_request}
use Rattle.ddf_group_commands.specs.Requests.{linux_members}
use Rattle.ddf_rebuild_command.specs.Asked.{rebuild_request}
use Rattle.ddf_rebuild_command.specs.CopiedBack.{HasCopiedBack}
use Rattle.ddf_rebuild_command.specs.GoingBack.{copyback_request}
use Rattle.ddf_rebuild_command.specs.Rebuilt.{HasRebuiltArray}
use Rattle.ddf_data_calls.specs.Calls.{MayAsk}
use Rattle.ddf_data_calls.specs.Agreed.{DoDisksAgree}
use Rattle.ddf_data_calls.specs.Promised.{HasGiven, IsWrittenOf, MayBeWritten, counted}
use Rattle.ddf_joining.specs.Joining.{config_joining}
use Rattle.ddf_command.specs.History.{JoinCall as GroupsJoin, OtherCall as CallBeside, joins_of}
use Rattle.ddf_data_events.specs.Joins.{HaveJoiningFloors, IsNonePromised}
use Rattle.ddf_data_events.specs.Moments.{Moment}

-- `disks` is what a bay of type B tells, and `told` that it tells what they hold; `streams` is what an input of type S tells.
module _ {B : Type 0} {tells : Type 0} (told : tells) (disks : B → BayState B) {S : Type 0} (tells_bytes : Type 0) (streams : S → SourceState) (guid : List ℕ) where
  -- A call that left these slots out found the group, and the history admits it: it was told what a stop may leave.
  pub record Finds (old : Moment guid B) (left : List Bool) (newest : List (Option Newest)) (named : Option (List ℕ)) : Type 0 where
    pub tells_left : (disks old.bay).tells_left
    pub found : GroupValue
    pub is_found : group_of newest named ≡ Ok found
    pub own : found.config.group ≡ guid
    pub admitted : IsAdmitted guid old.past (disks old.bay) left found

  -- ---- what calls come to

  -- A call that takes the group: the bay that it left, the slots that it left out, each only where a call of this call failed on it, the group that it found by
  -- the others, the configurations that it issues, whether it was done, and what may be promised on its way and behind it.
  pub record Stepped (old : Moment guid B) : Type 1 where
    pub exit : B
    pub left : List Bool
    pub every_slot : length left ≡ length (disks old.bay).sizes
    pub failed : (slot : ℕ) → slot < length left → IsTrue (slice_index_or left slot false) → LookFailed (disks old.bay) (disks exit) slot
    pub newest : List (Option Newest)
    pub read : newest ≡ newest_from (disks old.bay) 0 left
    pub named : Option (List ℕ)
    pub finds : Finds old left newest named
    pub issued : List Configuration
    pub done : Bool
    pub may_promise : Promises → Type 0
    pub promises_then : Promises → Type 0

  -- one that takes it by what it asks of it, for these steps
  abbrev pub stepped : {old : Moment guid B} {named : Option (List ℕ)} {timestamp : ℕ} {request : Request} {done : Bool} (exit : B)
      (taken : TakesGroup (work_of tells (disks old.bay) (disks exit)) named timestamp request done) → Finds old taken.left taken.newest named → List Step
      → (may_promise promises_then : Promises → Type 0) → Stepped old
  stepped {named = named} {done = done} exit taken finds steps may_promise promises_then = record {
    exit = exit;
    left = taken.left;
    every_slot = taken.every_slot;
    failed = taken.failed;
    newest = taken.newest;
    read = taken.read told;
    named = named;
    finds = finds;
    issued = changes_in finds.found steps;
    done = done;
    may_promise = may_promise;
    promises_then = promises_then;
  }

  -- It takes the group; or its history stays as it is, and it left this bay.
  pub data Course (old : Moment guid B) : Type 1 where
    Stepping : Stepped old → Course old
    Passing : (exit : B) → Course old

  module _ {old : Moment guid B} where
    abbrev pub exit_in : Course old → B
    exit_in (Stepping by) = by.exit
    exit_in (Passing exit) = exit

    -- how far the changes may have come at a moment since its entry, and what may be promised then
    abbrev pub comes_in : Course old → Past (groups guid) → Type 0
    comes_in (Stepping by) now = Goes guid old.past (is_read by.left) by.finds.found by.issued now
    comes_in (Passing exit) now = now ≡ old.past

    abbrev pub may_promise_in : Course old → Promises → Type 0
    may_promise_in (Stepping by) promised = by.may_promise promised
    may_promise_in (Passing exit) promised = Stays old.promises promised

    -- where they end
    abbrev pub ends_in : Course old → Past (groups guid) → Type 0
    ends_in (Stepping by) now = Ends guid old.past (is_read by.left) by.finds.found by.issued by.done now
    ends_in (Passing exit) now = now ≡ old.past

    abbrev pub promises_in : Course old → Promises → Type 0
    promises_in (Stepping by) promised = by.promises_then promised
    promises_in (Passing exit) promised = Stays old.promises promised

    -- the configurations that it issues, and whether all of them are acknowledged at its end
    abbrev pub issued_in : Course old → List Configuration
    issued_in (Stepping by) = by.issued
    issued_in (Passing exit) = []

    abbrev pub done_in : Course old → Bool
    done_in (Stepping by) = by.done
    done_in (Passing exit) = true

  -- ---- a command that changes the group

  -- It wasn't refused. Its one change, if it makes one, has what it asks for.
  pub record ChangeCall (old : Moment guid B) : Type 0 where
    pub exit : B
    pub named : Option (List ℕ)
    pub timestamp : ℕ
    pub request : Request
    pub outcome : Result ℕ Failure
    pub changed : HasChanged (work_of tells (disks old.bay) (disks exit)) named timestamp request outcome
    pub finds : Finds old changed.taken.left changed.taken.newest named
    pub steps : List Step
    pub are_asked : steps_of finds.found timestamp request ≡ Ok steps
    pub change : Option Change
    pub is_change : request (config_recovered finds.found) finds.found.seats ≡ Ok (option_to_list change)
    pub may : (image : Image) → IsLeft (disks old.bay).may_hold image → MayAsk (config_recovered finds.found) finds.found.seats image old.promises change

  -- what is promised behind it: the blocks of an array that it created may have any bytes
  abbrev pub once_changed : Option Change → (done : Bool) → Promises → Promises
  once_changed (Some (Create created array)) true promises = with_promise promises created (Some any_bytes)
  once_changed change done promises = promises

  abbrev pub by_change : {old : Moment guid B} → ChangeCall old → Stepped old
  by_change {old = old} call =
      stepped call.exit call.changed.taken call.finds call.steps (Stays old.promises) (λ promised. promised ≡ once_changed call.change (is_done call.outcome) old.promises)

  -- An `accept` of an array of which the bytes agree: once it is done, what its blocks have counts from then on.
  pub record AcceptCall (old : Moment guid B) : Type 0 where
    pub call : ChangeCall old
    pub array : List ℕ
    pub init : ℕ
    pub is_accept : call.change ≡ Some (Unmark array init)
    pub agree : DoDisksAgree call.finds.found array (disks old.bay).held

  abbrev pub once_accepted : {old : Moment guid B} → (accept : AcceptCall old) → (done : Bool) → Promises
  once_accepted {old = old} accept true = counted accept.array accept.agree.volume (disks accept.call.exit).held old.promises
  once_accepted {old = old} accept false = old.promises

  abbrev pub by_accept : {old : Moment guid B} → AcceptCall old → Stepped old
  by_accept {old = old} accept =
      stepped accept.call.exit accept.call.changed.taken accept.call.finds accept.call.steps (Stays old.promises) (λ promised. promised ≡ once_accepted accept (is_done accept.call.outcome))

  -- ---- commands on the blocks of an array

  -- A call of `resync` that wasn't refused. It may be said of it that what its blocks have once it is done counts from then on.
  pub record ResyncCall (old : Moment guid B) : Type 0 where
    pub exit : B
    pub named : Option (List ℕ)
    pub timestamp : ℕ
    pub word : List ℕ
    pub outcome : Result ℕ Failure
    pub resynced : HasResyncedArray (work_of tells (disks old.bay) (disks exit)) named timestamp word outcome
    pub finds : Finds old resynced.taken.left resynced.taken.newest named
    pub plan : IsPlanned finds.found timestamp word (resync_request word)
    pub counts : Bool

  abbrev pub once_resynced : {old : Moment guid B} → (call : ResyncCall old) → (counts : Bool) → Promises
  once_resynced {old = old} call true = counted call.plan.entry.0 call.plan.volume (disks call.exit).held old.promises
  once_resynced {old = old} call false = old.promises

  abbrev pub by_resync : {old : Moment guid B} → ResyncCall old → Stepped old
  by_resync {old = old} call =
      stepped call.exit call.resynced.taken call.finds (call.plan.first ++ call.plan.last) (Stays old.promises) (λ promised. promised ≡ once_resynced call (call.counts && is_done call.outcome))

  -- A call of `write` that took bytes, all of its blocks or of the first pieces, and wasn't refused.
  pub record WriteCall (old : Moment guid B) : Type 0 where
    pub exit : B
    pub source_old : S
    pub source_new : S
    pub named : Option (List ℕ)
    pub timestamp : ℕ
    pub word : List ℕ
    pub start : ℕ
    pub count : ℕ
    pub sectors : List (List ℕ)
    pub outcome : Outcome
    pub given : HasGiven outcome sectors
    pub wrote : HasWrittenArray (work_of tells (disks old.bay) (disks exit)) (input_of tells_bytes (streams source_old) (streams source_new)) named timestamp word start count outcome
    pub finds : Finds old wrote.taken.left wrote.taken.newest named
    pub plan : IsPlanned finds.found timestamp word (write_request word start count)

  abbrev pub by_write : {old : Moment guid B} → WriteCall old → Stepped old
  by_write {old = old} call =
      stepped call.exit call.wrote.taken call.finds (call.plan.first ++ call.plan.last) (MayBeWritten call.plan.entry.0 call.start call.sectors old.promises)
      (IsWrittenOf (is_written call.outcome) call.plan.entry.0 call.start call.sectors old.promises)

  -- A call of `rebuild` that wasn't refused, whether a position of its array was out of sync or none.
  pub record RebuildCall (old : Moment guid B) : Type 0 where
    pub exit : B
    pub named : Option (List ℕ)
    pub timestamp : ℕ
    pub word : List ℕ
    pub outcome : Result ℕ Failure
    pub rebuilt : HasRebuiltArray (work_of tells (disks old.bay) (disks exit)) named timestamp word outcome
    pub finds : Finds old rebuilt.taken.left rebuilt.taken.newest named
    pub steps : List Step
    pub are_asked : steps_of finds.found timestamp (rebuild_request word (linux_members finds.found)) ≡ Ok steps

  abbrev pub by_rebuild : {old : Moment guid B} → RebuildCall old → Stepped old
  by_rebuild {old = old} call = stepped call.exit call.rebuilt.taken call.finds call.steps (Stays old.promises) (Stays old.promises)

  -- A call of `copyback` that wasn't refused.
  pub record CopybackCall (old : Moment guid B) : Type 0 where
    pub exit : B
    pub named : Option (List ℕ)
    pub timestamp : ℕ
    pub word : List ℕ
    pub slot : ℕ
    pub outcome : Result ℕ Failure
    pub copied : HasCopiedBack (work_of tells (disks old.bay) (disks exit)) named timestamp word slot outcome
    pub finds : Finds old copied.taken.left copied.taken.newest named
    pub steps : List Step
    pub are_asked : steps_of finds.found timestamp (copyback_request (length (disks old.bay).sizes) word slot (linux_members finds.found)) ≡ Ok steps

  abbrev pub by_copyback : {old : Moment guid B} → CopybackCall old → Stepped old
  by_copyback {old = old} call = stepped call.exit call.copied.taken call.finds call.steps (Stays old.promises) (Stays old.promises)

  -- ---- a command by which another group joins

  -- A call of `import` that wasn't refused, as the histories of its group have it: its own group is this one. Nothing is promised of the arrays that
  -- join, and the disks that join have their floors.
  pub record JoinCall (old : Moment guid B) : Type 0 where
    pub join : GroupsJoin told disks guid (record { past = old.past; bay = old.bay })
    pub tells_left : (disks old.bay).tells_left
    pub none_promised : IsNonePromised (config_joining join.joining) old.promises
    pub floors : HaveJoiningFloors guid old.past (disks old.bay) old.floor join.joining

  -- what it issues
  abbrev pub joins_in : {old : Moment guid B} → JoinCall old → List Configuration
  joins_in {old = old} call = joins_of told disks guid (record { past = old.past; bay = old.bay }) call.join

  abbrev pub by_join : {old : Moment guid B} → JoinCall old → Stepped old
  by_join {old = old} call = record {
    exit = call.join.exit;
    left = call.join.imported.first.left;
    every_slot = call.join.imported.first.every_slot;
    failed = call.join.imported.first.failed;
    newest = call.join.imported.first.newest;
    read = call.join.imported.first.read told;
    named = call.join.named;
    finds = record { tells_left = call.tells_left; found = call.join.group; is_found = call.join.is_group; own = call.join.same_group; admitted = call.join.admitted };
    issued = joins_in call;
    done = is_done call.join.outcome;
    may_promise = Stays old.promises;
    promises_then = Stays old.promises;
  }

  -- ---- calls that don't change the group

  -- A call that doesn't take the group, as its histories have it: one that changes another group, or labels disks. None of the slots that it may write has the
  -- disk of a current member since the last acknowledged change.
  pub record OtherCall (old : Moment guid B) : Type 0 where
    pub beside : CallBeside told disks guid (record { past = old.past; bay = old.bay })
    pub same_sizes : (disks beside.exit).sizes ≡ (disks old.bay).sizes
    pub no_member : (slot number : ℕ) (config : Configuration) → is_slot beside.written slot ≡ true → IsSince old.past.changes number config → has_current config (old.past.disk slot) ≡ true → ⊥

  -- ---- each of them

  -- The last only reads: one that was refused does so too.
  pub data Call (old : Moment guid B) : Type 0 where
    Changes : ChangeCall old → Call old
    Accepts : AcceptCall old → Call old
    Resyncs : ResyncCall old → Call old
    Writes : WriteCall old → Call old
    Rebuilds : RebuildCall old → Call old
    Copies : CopybackCall old → Call old
    Joins : JoinCall old → Call old
    Others : OtherCall old → Call old
    Reads : (exit : B) → ReadsOnly (disks old.bay) (disks exit) → Call old

  module _ {old : Moment guid B} where
    abbrev pub course_of : Call old → Course old
    course_of (Changes call) = Stepping (by_change call)
    course_of (Accepts accept) = Stepping (by_accept accept)
    course_of (Resyncs call) = Stepping (by_resync call)
    course_of (Writes call) = Stepping (by_write call)
    course_of (Rebuilds call) = Stepping (by_rebuild call)
    course_of (Copies call) = Stepping (by_copyback call)
    course_of (Joins call) = Stepping (by_join call)
    course_of (Others call) = Passing call.beside.exit
    course_of (Reads exit reads) = Passing exit

    abbrev pub exit_of : Call old → B
    exit_of call = exit_in (course_of call)

    -- how far its changes may have come at a moment since its entry, and what may be promised then
    abbrev pub HasComeTo : Call old → Past (groups guid) → Type 0
    HasComeTo call now = comes_in (course_of call) now

    abbrev pub MayPromise : Call old → Promises → Type 0
    MayPromise call promised = may_promise_in (course_of call) promised

    -- where they end
    abbrev pub EndsAt : Call old → Past (groups guid) → Type 0
    EndsAt call now = ends_in (course_of call) now

    abbrev pub PromisesThen : Call old → Promises → Type 0
    PromisesThen call promised = promises_in (course_of call) promised
