-- What the command does by which another group joins the group that the disks are, and how it ends.
use Rattle.std.specs.Prelude.{◌≡◌, ◌⊎◌, ℕ, ◌+◌, ◌*◌, ◌<◌, ◌≤◌, ◌==◌, ◌&&◌, not, Bool, true, false, List, [], ◌∷◌, ◌++◌, length, Option, Some, None, Result, Ok, Err, IfSome, IsTrue, option_to_list, slice_index, slice_index_or}
use Rattle.std.specs.List.{list_all, list_any}
use Rattle.ddf_bytes.specs.Counts.{Rose}
use Rattle.ddf_bay.specs.Moments.{StopsLeave}
use Rattle.ddf_bay.specs.ReadsOnly.{LookFailed, ReadsOnly}
use Rattle.ddf_bay.specs.State.{BayState}
use Rattle.ddf_copy.specs.declared.newest_copy.Newest.{Newest}
use Rattle.ddf_config.specs.declared.refusal.Refusal.{Refusal}
use Rattle.ddf_config.specs.declared.refusal.Refusal.TheVariants.{NoGroup}
use Rattle.ddf_config.specs.declared.seat.Seat.{Seat}
use Rattle.ddf_config.specs.Refusals.{first_refusal}
use Rattle.ddf_group.specs.declared.answer.Assembly.{Assembly}
use Rattle.ddf_update.specs.Group.{IsOneOf}
use Rattle.ddf_seats.specs.declared.fault.GroupFault.{GroupFault}
use Rattle.ddf_joining.specs.declared.importing.ReadyImport.{ReadyImport}
use Rattle.ddf_steps.specs.Committed.{AreSettled, slots_of}
use Rattle.ddf_seats.specs.Group.{GroupValue, is_kept}
use Rattle.ddf_assembly.specs.Group.{group_of}
use Rattle.ddf_joining.specs.Importing.{IsOfAnother, first_causes, was_readied}
use Rattle.ddf_joining.specs.Joining.{Joining, join_config, join_disks, joining}
use Rattle.ddf_joining.specs.JoinValue.{JoinValue}
use Rattle.ddf_recovery.specs.Ready.{ReadyValue}
use Rattle.ddf_seats.specs.Seated.{seated}
use Rattle.ddf_assembly.specs.Slots.{AreOut, first_left_out, newest_from}
use Rattle.ddf_steps.specs.Steps.{Step}
use Rattle.ddf_steps.specs.Trying.{Follows}
use Rattle.ddf_history.specs.Groups.{groups}
use Rattle.ddf_history.specs.Issued.{Past}
use Rattle.ddf_history_steps.specs.Going.{IsAdmitted, KeepsHistory}
use Rattle.ddf_history_joins.specs.Joins.{AdmitsCall}
use Rattle.ddf_history_steps.specs.Kept.{AreAllKept}
use Rattle.ddf_history_steps.specs.Steps.{recovery_changes}
use Rattle.ddf_answer.specs.declared.failure.Failure.{Failure}
use Rattle.ddf_answer.specs.declared.failure.Failure.TheVariants.{Conflict, Disk, Memory, Refused, Split}
use Rattle.ddf_answer.specs.Answers.{failure_of}
use Rattle.ddf_answer.specs.Call.{Answer, Work}
use Rattle.ddf_group_commands.specs.Change.{IsToldChange, failure_of_group, is_done}
use Rattle.ddf_group_commands.specs.Writing.{IsLeftWriting}
use Rattle.ddf_group_commands.specs.Written.{AreWritten}

-- ---- what is asked of two groups

abbrev pub is_own : List Seat → (slot : ℕ) → Bool
is_own seats slot = list_any (λ seat. seat.slot == slot) seats

-- A group keeps the newest copy of each of these seats' slots, and none is a slot of its own. Where disks tell what they hold it does so of each slot
-- that its look didn't leave out, unless the join is refused before.
abbrev pub keeps_disks : GroupValue → List Seat → Bool
keeps_disks group seats = list_all (λ seat. is_kept group.newest seat.slot && not (is_own group.seats seat.slot)) seats

-- What an import is, or why there is none. In order: what refuses it whatever the tables hold; the slot of a joining disk that was left out; what the
-- group doesn't keep of the disks that join; and what refuses the join.
abbrev pub joining_unless : (first : Option Refusal) → (out : Option ℕ) → (keeps : Bool) → Result Joining GroupFault → Result Joining Failure
joining_unless (Some refusal) out keeps made = Err (Refused refusal)
joining_unless None (Some slot) keeps made = Err (Disk slot)
joining_unless None None false made = Err (Refused NoGroup)
joining_unless None None true (Ok made) = Ok made
joining_unless None None true (Err fault) = Err (failure_of_group fault)

-- what it is of two groups, the first of which was found by a look that left these slots out
abbrev pub import_asked : (timestamp : ℕ) → (left : List Bool) → (native other : GroupValue) → Result Joining Failure
import_asked timestamp left native other =
    joining_unless (first_refusal (first_causes native other)) (first_left_out left other.seats) (keeps_disks native other.seats) (joining timestamp native other)

-- its steps: the recovery, where there is one, and the join
abbrev pub import_steps : Joining → List Step
import_steps made = option_to_list made.recovery ++ made.step ∷ []

-- ---- what is readied

-- What is readied is what is asked: the recovery of the group, and behind it the join of the other one's disks, which are of another group and each
-- of which the group knows.
pub record IsImportReady (timestamp : ℕ) (left : List Bool) (native other : GroupValue) (recovery : ReadyValue) (join : JoinValue) : Type 0 where
  pub are_asked : import_asked timestamp left native other ≡ Ok (was_readied recovery join)
  pub of_another : IsOfAnother (join_config native other) (seated other)
  pub are_kept : keeps_disks native other.seats ≡ true
  pub is_readied : joining timestamp native other ≡ Ok (was_readied recovery join)
  pub none_behind : recovery.steps ≡ []
  pub recovers : IfSome recovery.recovery (Follows (seated native))
  pub follows : Follows (join_disks timestamp native other) join.one

-- it is readied, or this is why it isn't
abbrev pub IsImportReadyOr : (timestamp : ℕ) → (left : List Bool) → (native other : GroupValue) → Result ReadyImport Failure → Type 0
IsImportReadyOr timestamp left native other (Ok ready) = IsImportReady timestamp left native other ready.recovery ready.join
IsImportReadyOr timestamp left native other (Err (Refused refusal)) = import_asked timestamp left native other ≡ Err (Refused refusal)
IsImportReadyOr timestamp left native other (Err (Disk slot)) = import_asked timestamp left native other ≡ Err (Disk slot)
IsImportReadyOr timestamp left native other (Err Memory) = Unit {0}
IsImportReadyOr timestamp left native other (Err (Conflict i j sequence differ)) = ⊥
IsImportReadyOr timestamp left native other (Err (Split i j)) = ⊥

-- ---- what came of it

-- The import that was asked for was written, and this is the group's sequence number behind it. A stop leaves of each disk of both groups what it holds.
pub record IsJoined {D : Type 0} (work : Work D) (native other : GroupValue) (asked : Result Joining Failure) (sequence : ℕ) : Type 0 where
  pub made : Joining
  pub are_asked : asked ≡ Ok made
  pub is_last : sequence ≡ made.step.config.sequence
  pub are_written : work.tells → AreWritten work.old.sizes work.old.held (import_steps made) work.new.held
  pub are_settled : work.tells → AreSettled work.new native.seats (length native.seats)
  pub joined_settled : work.tells → AreSettled work.new other.seats (length other.seats)

-- A write or a sync of the slot of a seat of either group failed.
pub record IsJoinFault {D : Type 0} (work : Work D) (native other : GroupValue) (asked : Result Joining Failure) (slot : ℕ) : Type 0 where
  pub made : Joining
  pub are_asked : asked ≡ Ok made
  pub is_seat : IsOneOf (slots_of native.seats) slot ⊎ IsOneOf (slots_of other.seats) slot
  pub there : slot < length work.old.sizes
  pub rose : Rose (work.old.failed_writes slot) (work.new.failed_writes slot)

-- The first look left out the slot of a disk that joins, and the second didn't. Nothing was written.
pub record IsLeftOut {D : Type 0} (work : Work D) (also : List Bool) (asked : Result Joining Failure) (slot : ℕ) : Type 0 where
  pub is_asked : asked ≡ Err (Disk slot)
  pub seen : slice_index_or also slot false ≡ false
  pub reads : ReadsOnly work.old work.new

-- What came of two groups, by what is asked of them and what the second look left out: it was written; it was refused, or memory ran out, and nothing
-- was written; a disk that joins was left out; or a write or a sync failed.
abbrev pub IsImported : {D : Type 0} → Work D → (also : List Bool) → (native other : GroupValue) → Result Joining Failure → Result ℕ Failure → Type 0
IsImported work also native other asked (Ok sequence) = IsJoined work native other asked sequence
IsImported work also native other asked (Err (Refused refusal)) = (asked ≡ Err (Refused refusal)) × ReadsOnly work.old work.new
IsImported work also native other asked (Err (Disk slot)) = IsLeftOut work also asked slot ⊎ IsJoinFault work native other asked slot
IsImported work also native other asked (Err Memory) = ReadsOnly work.old work.new
IsImported work also native other asked (Err (Conflict i j sequence differ)) = ⊥
IsImported work also native other asked (Err (Split i j)) = ⊥

-- There is no group, or memory ran out.
abbrev pub IsNone : {D : Type 0} → Work D → Assembly → Result ℕ Failure → Type 0
IsNone work fault outcome = ((outcome ≡ Err (failure_of fault)) ⊎ (outcome ≡ Err Memory)) × ReadsOnly work.old work.new

-- In order: the group that is joined, the other one, and what is asked of both.
abbrev pub IsImportedIn : {D : Type 0} → Work D → (timestamp : ℕ) → (left also : List Bool) → (native other : Result GroupValue Assembly) → Result ℕ Failure → Type 0
IsImportedIn work timestamp left also (Ok native) (Ok other) outcome = IsImported work also native other (import_asked timestamp left native other) outcome
IsImportedIn work timestamp left also (Ok native) (Err fault) outcome = IsNone work fault outcome
IsImportedIn work timestamp left also (Err fault) other outcome = IsNone work fault outcome

-- ---- what it means to histories

-- Each history of the group that admits the call, by which disks join that show another group, is kept: whatever a stop leaves, at any moment since
-- the call's entry and at its end, shows what it should, for the loss of absent members and the join as far as they are issued then; and where the
-- call is done both are acknowledged.
abbrev pub KeepsJoins : {D : Type 0} (old new : BayState D) → (left : List Bool) → (native other : GroupValue) → (timestamp : ℕ) → Joining → (done : Bool) → Type 0
KeepsJoins old new left native other timestamp made done =
    (group : List ℕ) → native.config.group ≡ group → (past : Past (groups group)) → AreAllKept group past old
    → IsAdmitted group past old left native → AdmitsCall group past old native other
    → KeepsHistory group old new past left native (recovery_changes timestamp native ++ made.step.config ∷ []) done

-- ---- the call

-- The newest copies of the slots that a look at the disks didn't leave out. A slot is left out only where a call of this call failed on it.
pub record IsLook {D : Type 0} (work : Work D) : Type 0 where
  pub left : List Bool
  pub every_slot : length left ≡ length work.old.sizes
  pub failed : (slot : ℕ) → slot < length left → IsTrue (slice_index_or left slot false) → LookFailed work.old work.new slot
  pub newest : List (Option Newest)
  pub read : work.tells → newest ≡ newest_from work.old 0 left

-- The most calls that it makes of a bay of so many slots: 15 to look at each, twice, one sync of each for the recovery and for the join, and 25 for each
-- copy of both.
abbrev pub most_calls : (slots : ℕ) → ℕ
most_calls slots = 82 * slots

-- A call came to this: what it made of the groups that two looks at the disks found, each by its own. Where the first found none there was no
-- second. A slot that neither left out was read without a failure, and where all was done no write or sync failed of it, nor of one that has a
-- sector; one of which every call fails is left out by the first, but where memory ran out.
pub record HasImported {D : Type 0} (work : Work D) (named : Option (List ℕ)) (other : List ℕ) (timestamp : ℕ) (outcome : Result ℕ Failure) : Type 0 where
  pub first : IsLook work
  pub second : IsLook work
  pub seen : (slot : ℕ) → slot < length first.left → slice_index_or first.left slot false ≡ false → slice_index_or second.left slot false ≡ false
      → work.new.failed_reads slot ≡ work.old.failed_reads slot
  pub unfailed : is_done outcome ≡ true → (slot : ℕ) → slot < length first.left
      → ((slice_index_or first.left slot false ≡ false) × (slice_index_or second.left slot false ≡ false)) ⊎ (0 < slice_index work.old.sizes slot)
      → work.new.failed_writes slot ≡ work.old.failed_writes slot
  pub gone : (outcome ≡ Err Memory → ⊥) → AreOut work.old first.left
  pub calls : work.new.calls ≤ work.old.calls + most_calls (length work.old.sizes)
  pub gives : IsImportedIn work timestamp first.left second.left (group_of first.newest named) (group_of second.newest (Some other)) outcome
  pub keeps : work.tells → (native joined : GroupValue) → group_of first.newest named ≡ Ok native → group_of second.newest (Some other) ≡ Ok joined → (made : Joining)
      → import_asked timestamp first.left native joined ≡ Ok made → KeepsJoins work.old work.new first.left native joined timestamp made (is_done outcome)
  -- Whatever a stop leaves, no sector of any disk is another one but those of the copies that the steps write.
  pub leaves : work.tells → (native joined : GroupValue) → group_of first.newest named ≡ Ok native → group_of second.newest (Some other) ≡ Ok joined → (made : Joining)
      → import_asked timestamp first.left native joined ≡ Ok made → StopsLeave work.old work.new (IsLeftWriting work.old (import_steps made))

-- It came to this, and said so.
pub record IsImportDone {D : Type 0} (work : Work D) (named : Option (List ℕ)) (other : List ℕ) (timestamp : ℕ) (answer : Answer) : Type 0 where
  pub outcome : Result ℕ Failure
  pub has : HasImported work named other timestamp outcome
  pub ends : IsToldChange outcome answer
