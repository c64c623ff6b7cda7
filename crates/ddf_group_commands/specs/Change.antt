-- What a command that changes a group does, and how it ends.
use Rattle.std.specs.Prelude.{◌≡◌, ◌⊎◌, ℕ, ◌+◌, ◌*◌, ◌<◌, ◌≤◌, Bool, true, false, List, [], ◌∷◌, length, Option, Result, Ok, Err, IsTrue, slice_index, slice_index_or}
use Rattle.ddf_bytes.specs.Counts.{Rose}
use Rattle.ddf_bay.specs.Moments.{StopsLeave}
use Rattle.ddf_bay.specs.ReadsOnly.{LookFailed, ReadsOnly}
use Rattle.ddf_bay.specs.State.{BayState}
use Rattle.ddf_copy.specs.declared.newest_copy.Newest.{Newest}
use Rattle.ddf_config.specs.declared.refusal.Refusal.{Refusal}
use Rattle.ddf_config.specs.declared.refusal.Refusal.TheVariants.{SequenceSpent}
use Rattle.ddf_config.specs.declared.seat.Seat.{Seat}
use Rattle.ddf_config.specs.Configuration.{Configuration}
use Rattle.ddf_plan.specs.declared.change.Change.{Change}
use Rattle.ddf_group.specs.declared.answer.Assembly.{Assembly}
use Rattle.ddf_seats.specs.declared.fault.GroupFault.{GroupFault}
use Rattle.ddf_seats.specs.declared.fault.GroupFault.TheVariants as faults
use Rattle.ddf_update.specs.Group.{IsOneOf}
use Rattle.ddf_steps.specs.Committed.{AreSettled, slots_of}
use Rattle.ddf_seats.specs.Group.{GroupValue}
use Rattle.ddf_assembly.specs.Group.{group_of}
use Rattle.ddf_recovery.specs.Ready.{readied}
use Rattle.ddf_recovery.specs.Recovery.{config_recovered}
use Rattle.ddf_assembly.specs.Slots.{AreOut, newest_from}
use Rattle.ddf_steps.specs.Steps.{Step}
use Rattle.ddf_history.specs.Groups.{groups}
use Rattle.ddf_history.specs.Issued.{Past}
use Rattle.ddf_history_steps.specs.Going.{IsAdmitted, KeepsHistory, changes_in}
use Rattle.ddf_history_steps.specs.Kept.{AreAllKept}
use Rattle.ddf_text.specs.Done.{sequence_line}
use Rattle.ddf_answer.specs.declared.failure.Failure.{Failure}
use Rattle.ddf_answer.specs.declared.failure.Failure.TheVariants.{Conflict, Disk, Memory, Refused, Split}
use Rattle.ddf_answer.specs.Answers.{IsToldFailure, failure_of}
use Rattle.ddf_answer.specs.Call.{Answer, Work}
use Rattle.ddf_answer.specs.Costs.{WritesAtMost}
use Rattle.ddf_group_commands.specs.Costs.{CostsOfAsked}
use Rattle.ddf_group_commands.specs.Others.{LeavesOthers}
use Rattle.ddf_answer.specs.Tells.{ClosesWith}
use Rattle.ddf_group_commands.specs.Writing.{IsLeftWriting}
use Rattle.ddf_group_commands.specs.Written.{AreWritten}

-- ---- what is asked of a group

-- the changes that a command asks of a group, by its configuration once it is recovered and by its seats, or why there are none
abbrev pub Request : Type 0
Request = Configuration → List Seat → Result (List Change) Refusal

-- why changes aren't made
abbrev pub failure_of_group : GroupFault → Failure
failure_of_group (faults.Refused refusal) = Refused refusal
failure_of_group faults.SequenceSpent = Refused SequenceSpent
failure_of_group faults.Memory = Memory

abbrev pub steps_or : Result (List Step) GroupFault → Result (List Step) Failure
steps_or (Ok steps) = Ok steps
steps_or (Err fault) = Err (failure_of_group fault)

abbrev pub steps_asked : GroupValue → (timestamp : ℕ) → Result (List Change) Refusal → Result (List Step) Failure
steps_asked group timestamp (Ok changes) = steps_or (readied group changes timestamp)
steps_asked group timestamp (Err refusal) = Err (Refused refusal)

-- In order: there is what the words ask for; the group can be recovered, and the changes aren't refused. The recovery comes before them.
abbrev pub steps_of : GroupValue → (timestamp : ℕ) → Request → Result (List Step) Failure
steps_of group timestamp request = steps_asked group timestamp (request (config_recovered group) group.seats)

-- the sequence number behind these steps
abbrev pub last_sequence : (sequence : ℕ) → List Step → ℕ
last_sequence sequence [] = sequence
last_sequence sequence (step ∷ steps) = last_sequence step.config.sequence steps

-- ---- what came of it

-- The steps that were asked for were written, and this is the group's sequence number behind them.
pub record IsDoneTo {D : Type 0} (work : Work D) (group : GroupValue) (asked : Result (List Step) Failure) (sequence : ℕ) : Type 0 where
  pub steps : List Step
  pub are_asked : asked ≡ Ok steps
  pub is_last : sequence ≡ last_sequence group.config.sequence steps
  pub are_written : work.tells → AreWritten work.old.sizes work.old.held steps work.new.held
  -- without a step no sector was asked to be written
  pub none_asked : steps ≡ [] → work.new.sectors_asked ≡ work.old.sectors_asked
  -- a stop leaves of the seats' slots what they hold
  pub are_settled : work.tells → AreSettled work.new group.seats (length group.seats)

-- A write or a sync of the slot of a seat failed.
pub record IsFaultOn {D : Type 0} (work : Work D) (group : GroupValue) (asked : Result (List Step) Failure) (slot : ℕ) : Type 0 where
  pub steps : List Step
  pub are_asked : asked ≡ Ok steps
  pub is_seat : IsOneOf (slots_of group.seats) slot
  pub there : slot < length work.old.sizes
  pub rose : Rose (work.old.failed_writes slot) (work.new.failed_writes slot)

-- What came of a group, by the steps that are asked of it: they were written; it was refused, or memory ran out, and nothing was
-- written; or a write or a sync failed.
abbrev pub IsChanged : {D : Type 0} → Work D → GroupValue → Result (List Step) Failure → Result ℕ Failure → Type 0
IsChanged work group asked (Ok sequence) = IsDoneTo work group asked sequence
IsChanged work group asked (Err (Refused refusal)) = (asked ≡ Err (Refused refusal)) × ReadsOnly work.old work.new
IsChanged work group asked (Err (Disk slot)) = IsFaultOn work group asked slot
IsChanged work group asked (Err Memory) = ReadsOnly work.old work.new
IsChanged work group asked (Err (Conflict i j sequence differ)) = ⊥
IsChanged work group asked (Err (Split i j)) = ⊥

abbrev pub IsChangedIn : {D : Type 0} → Work D → (timestamp : ℕ) → Request → Result GroupValue Assembly → Result ℕ Failure → Type 0
IsChangedIn work timestamp request (Ok group) outcome = IsChanged work group (steps_of group timestamp request) outcome
IsChangedIn work timestamp request (Err fault) outcome =
    ((outcome ≡ Err (failure_of fault)) ⊎ (outcome ≡ Err Memory)) × ReadsOnly work.old work.new

-- It costs no more than the steps that were asked of the group that was found; without a group nothing.
abbrev pub CostsOfSteps : {D : Type 0} → Work D → (timestamp : ℕ) → Request → Result GroupValue Assembly → Type 0
CostsOfSteps work timestamp request (Ok found) = CostsOfAsked work (steps_of found timestamp request)
CostsOfSteps work timestamp request (Err fault) = WritesAtMost work 0

-- ---- what it means to histories

abbrev pub is_done : Result ℕ Failure → Bool
is_done (Ok sequence) = true
is_done (Err failure) = false

-- Each history of the group that admits the call is kept: whatever a stop leaves, at any moment since the call's entry and at its end, shows
-- what it should, for the changes as far as they are issued then; and where the call is done all of them are acknowledged.
abbrev pub KeepsHistories : {D : Type 0} (old new : BayState D) → (left : List Bool) → GroupValue → List Step → (done : Bool) → Type 0
KeepsHistories old new left found steps done =
    (group : List ℕ) → found.config.group ≡ group → (past : Past (groups group)) → AreAllKept group past old → IsAdmitted group past old left found
    → KeepsHistory group old new past left found (changes_in found steps) done

-- A call that came to this took the group, if there is one, that the newest copies of the slots give that aren't left out: it left slots that are no
-- seats' as before, and keeps each history of the group that admits it. A slot is left out only where a call of this call failed on it. Where all was done
-- no write or sync failed of any other slot, nor of one that has a sector.
pub record TakesGroup {D : Type 0} (work : Work D) (named : Option (List ℕ)) (timestamp : ℕ) (request : Request) (done : Bool) : Type 0 where
  pub left : List Bool
  pub every_slot : length left ≡ length work.old.sizes
  pub failed : (slot : ℕ) → slot < length left → IsTrue (slice_index_or left slot false) → LookFailed work.old work.new slot
  pub newest : List (Option Newest)
  pub read : work.tells → newest ≡ newest_from work.old 0 left
  pub beside : work.tells → (found : GroupValue) → group_of newest named ≡ Ok found → LeavesOthers work.old work.new (slots_of found.seats)
  pub keeps : work.tells → (found : GroupValue) → group_of newest named ≡ Ok found → (steps : List Step) → steps_of found timestamp request ≡ Ok steps
      → KeepsHistories work.old work.new left found steps done
  pub unfailed : done ≡ true → (slot : ℕ) → slot < length left → (slice_index_or left slot false ≡ false) ⊎ (0 < slice_index work.old.sizes slot)
      → work.new.failed_writes slot ≡ work.old.failed_writes slot

-- The most calls that it makes of a bay of so many slots: 15 to look at each, one sync of each, and 25 for each copy of a recovery and of the step
-- behind it.
abbrev pub most_calls : (slots : ℕ) → ℕ
most_calls slots = 66 * slots

-- A call that reads and writes no blocks came to this: what it made of the group that it took. A slot that isn't left out was read without a failure,
-- and one of which every call fails is left out, but where memory ran out.
pub record HasChanged {D : Type 0} (work : Work D) (named : Option (List ℕ)) (timestamp : ℕ) (request : Request) (outcome : Result ℕ Failure) : Type 0 where
  pub taken : TakesGroup work named timestamp request (is_done outcome)
  pub seen : (slot : ℕ) → slot < length taken.left → slice_index_or taken.left slot false ≡ false → work.new.failed_reads slot ≡ work.old.failed_reads slot
  pub gone : (outcome ≡ Err Memory → ⊥) → AreOut work.old taken.left
  pub calls : work.new.calls ≤ work.old.calls + most_calls (length work.old.sizes)
  pub costs : CostsOfSteps work timestamp request (group_of taken.newest named)
  pub gives : IsChangedIn work timestamp request (group_of taken.newest named) outcome
  pub leaves : work.tells → (found : GroupValue) → group_of taken.newest named ≡ Ok found → (steps : List Step) → steps_of found timestamp request ≡ Ok steps
      → StopsLeave work.old work.new (IsLeftWriting work.old steps)

-- what is told of it, and with which status: once a disk was written no memory is taken
abbrev pub IsToldChange : Result ℕ Failure → Answer → Type 0
IsToldChange (Ok sequence) answer = ClosesWith 0 (sequence_line sequence) answer
IsToldChange (Err failure) answer = IsToldFailure failure answer

-- It came to this, and said so.
pub record IsChangeDone {D : Type 0} (work : Work D) (named : Option (List ℕ)) (timestamp : ℕ) (request : Request) (answer : Answer) : Type 0 where
  pub outcome : Result ℕ Failure
  pub has : HasChanged work named timestamp request outcome
  pub ends : IsToldChange outcome answer
