-- What `rebuild` does, and how it ends.
use Rattle.std.specs.Prelude.{◌≡◌, ◌⊎◌, ℕ, ◌<◌, Bool, false, List, ◌++◌, length, Option, Result, Ok, Err}
use Rattle.ddf_bay.specs.Moments.{StopsLeave}
use Rattle.ddf_bay.specs.ReadsOnly.{ReadsOnly}
use Rattle.ddf_bay.specs.Sectors.{Image, IsLeft}
use Rattle.ddf_rebuild.specs.Rebuilding.{NoneLeftInRows}
use Rattle.ddf_update.specs.Group.{IsOneOf}
use Rattle.ddf_read.specs.Reading.{Failed}
use Rattle.ddf_history.specs.Groups.{groups}
use Rattle.ddf_history.specs.Issued.{Past}
use Rattle.ddf_history_steps.specs.Going.{IsAdmitted}
use Rattle.ddf_history_steps.specs.Kept.{AreAllKept}
use Rattle.ddf_group.specs.declared.answer.Assembly.{Assembly}
use Rattle.ddf_steps.specs.Committed.{AreSettled, slots_of}
use Rattle.ddf_seats.specs.Group.{GroupValue}
use Rattle.ddf_assembly.specs.Group.{group_of}
use Rattle.ddf_assembly.specs.Slots.{AreOut}
use Rattle.ddf_steps.specs.Steps.{Step}
use Rattle.ddf_answer.specs.declared.failure.Failure.{Failure}
use Rattle.ddf_answer.specs.declared.failure.Failure.TheVariants.{Conflict, Disk, Memory, Refused, Split}
use Rattle.ddf_answer.specs.Answers.{failure_of}
use Rattle.ddf_answer.specs.Call.{Answer, Work}
use Rattle.ddf_group_commands.specs.Change.{IsDoneTo, IsFaultOn, IsToldChange, TakesGroup, is_done, last_sequence, steps_of as steps_asked}
use Rattle.ddf_group_commands.specs.Requests.{linux_found, linux_members}
use Rattle.ddf_group_commands.specs.Writing.{IsLeftWriting}
use Rattle.ddf_group_commands.specs.Written.{AreWritten}
use Rattle.ddf_rebuild_command.specs.Along.{ComesAlong}
use Rattle.ddf_rebuild_command.specs.Asked.{rebuild_request, rows_in}
use Rattle.ddf_rebuild_command.specs.Costs.{CostsOf}
use Rattle.ddf_rebuild_command.specs.Planned.{IsIdle, IsPlanned, first_row}
use Rattle.ddf_rebuild_command.specs.Rounds.{AreRounds, steps_of}
use Rattle.ddf_rebuild_command.specs.Stages.{IsLeftRebuilding}

-- ---- what came of the group

-- The first steps were written, and then the rounds were done, one after another. Nothing is pending on the group's slots in the end.
pub record AreRoundsDone {D : Type 0} (work : Work D) (found : GroupValue) {timestamp : ℕ} {word : List ℕ} (plan : IsPlanned found timestamp word) : Type 0 where
  pub before : Image
  pub first_written : AreWritten work.old.sizes work.old.held plan.first before
  pub rounds_done : AreRounds (Failed work.old work.new) work.new.tells_left work.old.sizes plan.volume plan.target (first_row plan) before plan.rounds work.new.held
  pub are_settled : AreSettled work.new found.seats (length found.seats)

-- A position was filled and is in sync, and this is the group's sequence number behind it.
pub record IsArrayRebuilt {D : Type 0} (work : Work D) (found : GroupValue) (timestamp : ℕ) (word : List ℕ) (sequence : ℕ) : Type 0 where
  pub plan : IsPlanned found timestamp word
  pub is_last : sequence ≡ last_sequence found.config.sequence (plan.first ++ steps_of plan.rounds)
  pub done : work.tells → AreRoundsDone work found plan

-- None was out of sync: the group was recovered, no more.
pub record IsArrayInSync {D : Type 0} (work : Work D) (found : GroupValue) (timestamp : ℕ) (word : List ℕ) (sequence : ℕ) : Type 0 where
  pub idle : IsIdle found timestamp word
  pub recovered : IsDoneTo work found (steps_asked found timestamp (rebuild_request word (linux_members found))) sequence

-- A read failed, and no source is left at this slot, a seat's, of a cell that a row of the position needs.
pub record IsFillStopped {D : Type 0} (work : Work D) (found : GroupValue) (timestamp : ℕ) (word : List ℕ) (slot : ℕ) : Type 0 where
  pub plan : IsPlanned found timestamp word
  pub is_seat : IsOneOf (slots_of found.seats) slot
  pub there : slot < length work.old.sizes
  pub none_left :
      NoneLeftInRows (Failed work.old work.new) plan.volume plan.target.element plan.target.position (first_row plan) (rows_in plan.entry.1 plan.target.element) slot

-- what came of a group: a position is in sync again, or each was; it is refused, or memory ran out, and nothing was written; or a slot failed
abbrev pub IsRebuiltOf : {D : Type 0} → Work D → GroupValue → (timestamp : ℕ) → (word : List ℕ) → Result ℕ Failure → Type 0
IsRebuiltOf work found timestamp word (Ok sequence) = IsArrayRebuilt work found timestamp word sequence ⊎ IsArrayInSync work found timestamp word sequence
IsRebuiltOf work found timestamp word (Err (Refused refusal)) = (steps_asked found timestamp (rebuild_request word (linux_members found)) ≡ Err (Refused refusal)) × ReadsOnly work.old work.new
IsRebuiltOf work found timestamp word (Err (Disk slot)) =
    IsFaultOn work found (steps_asked found timestamp (rebuild_request word (linux_members found))) slot ⊎ IsFillStopped work found timestamp word slot
IsRebuiltOf work found timestamp word (Err Memory) = ReadsOnly work.old work.new
IsRebuiltOf work found timestamp word (Err (Conflict i j sequence differ)) = ⊥
IsRebuiltOf work found timestamp word (Err (Split i j)) = ⊥

abbrev pub IsRebuiltIn : {D : Type 0} → Work D → (timestamp : ℕ) → (word : List ℕ) → Result GroupValue Assembly → Result ℕ Failure → Type 0
IsRebuiltIn work timestamp word (Ok found) outcome = IsRebuiltOf work found timestamp word outcome
IsRebuiltIn work timestamp word (Err fault) outcome = ((outcome ≡ Err (failure_of fault)) ⊎ (outcome ≡ Err Memory)) × ReadsOnly work.old work.new

-- ---- what a stop leaves

-- at every moment what might have been left before, the steps of a recovery under way where every position is in sync, or a rebuild under way
abbrev pub MayBeLeft : {D : Type 0} → Work D → GroupValue → (timestamp : ℕ) → (word : List ℕ) → List Step → Image → Type 0
MayBeLeft work found timestamp word steps image =
    IsLeft work.old.may_hold image ⊎ (IsIdle found timestamp word × IsLeftWriting work.old steps image) ⊎ IsLeftRebuilding work found timestamp word image

abbrev pub LeavesRebuilding : {D : Type 0} → Work D → (timestamp : ℕ) → (word : List ℕ) → Result GroupValue Assembly → Type 0
LeavesRebuilding work timestamp word meaning =
    (found : GroupValue) → meaning ≡ Ok found → (steps : List Step) → steps_asked found timestamp (rebuild_request word (linux_members found)) ≡ Ok steps
    → StopsLeave work.old work.new (MayBeLeft work found timestamp word steps)

-- Each history of the group that admits the call comes along with a rebuild, unless memory ran out before anything was written.
abbrev pub GoesAlong : {D : Type 0} → Work D → (timestamp : ℕ) → (word : List ℕ) → (left : List Bool) → Result GroupValue Assembly → (done : Bool) → Type 0
GoesAlong work timestamp word left meaning done =
    (found : GroupValue) → meaning ≡ Ok found → (steps : List Step) → steps_asked found timestamp (rebuild_request word (linux_members found)) ≡ Ok steps
    → (group : List ℕ) → found.config.group ≡ group → (past : Past (groups group)) → AreAllKept group past work.old → IsAdmitted group past work.old left found
    → ((done ≡ false) × ReadsOnly work.old work.new) ⊎ IsIdle found timestamp word ⊎ ((plan : IsPlanned found timestamp word) × ComesAlong group work past left found plan done)

-- ---- the command

-- A call came to this: what it made of the group that it took, by those of its disks that Linux reads. A slot of which every call fails is left out, but where
-- memory ran out.
pub record HasRebuiltArray {D : Type 0} (work : Work D) (named : Option (List ℕ)) (timestamp : ℕ) (word : List ℕ) (outcome : Result ℕ Failure) : Type 0 where
  pub linux : List ℕ
  pub taken : TakesGroup work named timestamp (rebuild_request word linux) (is_done outcome)
  pub are_its : linux ≡ linux_found (group_of taken.newest named)
  pub gone : (outcome ≡ Err Memory → ⊥) → AreOut work.old taken.left
  pub gives : IsRebuiltIn work timestamp word (group_of taken.newest named) outcome
  pub leaves : work.tells → LeavesRebuilding work timestamp word (group_of taken.newest named)
  pub along : work.tells → GoesAlong work timestamp word taken.left (group_of taken.newest named) (is_done outcome)
  pub costs : CostsOf work timestamp word (group_of taken.newest named)

-- It came to this, and said so.
pub record IsRebuildDone {D : Type 0} (work : Work D) (named : Option (List ℕ)) (timestamp : ℕ) (word : List ℕ) (answer : Answer) : Type 0 where
  pub outcome : Result ℕ Failure
  pub has : HasRebuiltArray work named timestamp word outcome
  pub ends : IsToldChange outcome answer
