-- What `copyback` does, and how it ends.
use Rattle.std.specs.Prelude.{◌≡◌, ◌⊎◌, ℕ, ◌+◌, ◌<◌, Bool, false, List, [], ◌∷◌, ◌++◌, length, Option, Result, Ok, Err}
use Rattle.ddf_bay.specs.Moments.{StopsLeave}
use Rattle.ddf_bay.specs.ReadsOnly.{ReadsOnly}
use Rattle.ddf_bay.specs.Sectors.{Image, IsLeft}
use Rattle.ddf_primary.specs.Cells.{depth_of}
use Rattle.ddf_rebuild.specs.Filling.{NoneLeftOf}
use Rattle.ddf_update.specs.Group.{IsOneOf}
use Rattle.ddf_read.specs.Reading.{Failed}
use Rattle.ddf_history.specs.Groups.{groups}
use Rattle.ddf_history.specs.Issued.{Past}
use Rattle.ddf_history_steps.specs.Going.{IsAdmitted}
use Rattle.ddf_history_steps.specs.Kept.{AreAllKept}
use Rattle.ddf_group.specs.declared.answer.Assembly.{Assembly}
use Rattle.ddf_steps.specs.Committed.{AreSettled, slots_of}
use Rattle.ddf_seats.specs.Group.{GroupValue}
use Rattle.ddf_assembly.specs.Group.{group_of}
use Rattle.ddf_assembly.specs.Slots.{AreOut}
use Rattle.ddf_steps.specs.Steps.{Step}
use Rattle.ddf_answer.specs.declared.failure.Failure.{Failure}
use Rattle.ddf_answer.specs.declared.failure.Failure.TheVariants.{Conflict, Disk, Memory, Refused, Split}
use Rattle.ddf_answer.specs.Answers.{failure_of}
use Rattle.ddf_answer.specs.Call.{Answer, Work}
use Rattle.ddf_answer.specs.Costs.{WritesAtMost}
use Rattle.ddf_group_commands.specs.Change.{IsFaultOn, IsToldChange, Request, TakesGroup, is_done, last_sequence, steps_of as steps_asked}
use Rattle.ddf_group_commands.specs.Costs.{steps_sectors}
use Rattle.ddf_group_commands.specs.Requests.{linux_found, linux_members}
use Rattle.ddf_group_commands.specs.Written.{AreWritten}
use Rattle.ddf_rebuild_command.specs.BackAlong.{ComesAlongBack}
use Rattle.ddf_rebuild_command.specs.BackPlanned.{IsBackPlanned, IsCopied, IsLeftGoingBack}
use Rattle.ddf_rebuild_command.specs.GoingBack.{copyback_request}

-- ---- what came of the group

-- The first steps were written, the room was filled with what the position should hold, and then the last step was written, by which the position is there. Nothing is
-- pending on the group's slots in the end.
pub record HasGoneBack {D : Type 0} (work : Work D) (found : GroupValue) {timestamp : ℕ} {word : List ℕ} {slot : ℕ} (plan : IsBackPlanned work.old.sizes found timestamp word slot) : Type 0 where
  pub before : Image
  pub first_written : AreWritten work.old.sizes work.old.held plan.first before
  pub filled : Image
  pub is_filled : IsCopied (Failed work.old work.new) work.new.tells_left plan.volume plan.target plan.to plan.room.start before filled
  pub last_written : AreWritten work.old.sizes filled (plan.last ∷ []) work.new.held
  pub are_settled : AreSettled work.new found.seats (length found.seats)

-- A position went back, and this is the group's sequence number behind it.
pub record IsPositionBack {D : Type 0} (work : Work D) (found : GroupValue) (timestamp : ℕ) (word : List ℕ) (slot sequence : ℕ) : Type 0 where
  pub plan : IsBackPlanned work.old.sizes found timestamp word slot
  pub is_last : sequence ≡ last_sequence found.config.sequence (plan.first ++ plan.last ∷ [])
  pub done : work.tells → HasGoneBack work found plan

-- A read failed, and no source is left at this slot, a seat's, of a cell that the position needs.
pub record IsCopyStopped {D : Type 0} (work : Work D) (found : GroupValue) (timestamp : ℕ) (word : List ℕ) (slot failed : ℕ) : Type 0 where
  pub plan : IsBackPlanned work.old.sizes found timestamp word slot
  pub is_seat : IsOneOf (slots_of found.seats) failed
  pub there : failed < length work.old.sizes
  pub none_left : NoneLeftOf (Failed work.old work.new) plan.volume plan.target.element plan.target.position failed

-- what is asked of a group
abbrev pub asked_back : {D : Type 0} → Work D → GroupValue → (word : List ℕ) → (slot : ℕ) → Request
asked_back work found word slot = copyback_request (length work.old.sizes) word slot (linux_members found)

-- what came of a group: a position went back; it is refused, or memory ran out, and nothing was written; or a slot failed
abbrev pub IsBackOf : {D : Type 0} → Work D → GroupValue → (timestamp : ℕ) → (word : List ℕ) → (slot : ℕ) → Result ℕ Failure → Type 0
IsBackOf work found timestamp word slot (Ok sequence) = IsPositionBack work found timestamp word slot sequence
IsBackOf work found timestamp word slot (Err (Refused refusal)) = (steps_asked found timestamp (asked_back work found word slot) ≡ Err (Refused refusal)) × ReadsOnly work.old work.new
IsBackOf work found timestamp word slot (Err (Disk failed)) =
    IsFaultOn work found (steps_asked found timestamp (asked_back work found word slot)) failed ⊎ IsCopyStopped work found timestamp word slot failed
IsBackOf work found timestamp word slot (Err Memory) = ReadsOnly work.old work.new
IsBackOf work found timestamp word slot (Err (Conflict i j sequence differ)) = ⊥
IsBackOf work found timestamp word slot (Err (Split i j)) = ⊥

abbrev pub IsBackIn : {D : Type 0} → Work D → (timestamp : ℕ) → (word : List ℕ) → (slot : ℕ) → Result GroupValue Assembly → Result ℕ Failure → Type 0
IsBackIn work timestamp word slot (Ok found) outcome = IsBackOf work found timestamp word slot outcome
IsBackIn work timestamp word slot (Err fault) outcome = ((outcome ≡ Err (failure_of fault)) ⊎ (outcome ≡ Err Memory)) × ReadsOnly work.old work.new

-- ---- what a stop leaves

-- at every moment what might have been left before, or a copyback under way, where nothing is refused
abbrev pub LeavesGoingBack : {D : Type 0} → Work D → (timestamp : ℕ) → (word : List ℕ) → (slot : ℕ) → Result GroupValue Assembly → Type 0
LeavesGoingBack work timestamp word slot meaning =
    (found : GroupValue) → meaning ≡ Ok found → (steps : List Step) → steps_asked found timestamp (asked_back work found word slot) ≡ Ok steps
    → StopsLeave work.old work.new (λ image. IsLeft work.old.may_hold image ⊎ IsLeftGoingBack work found timestamp word slot image)

-- Each history of the group that admits the call comes along with a copyback, unless memory ran out before anything was written.
abbrev pub GoesAlongBack : {D : Type 0} → Work D → (timestamp : ℕ) → (word : List ℕ) → (slot : ℕ) → (left : List Bool) → Result GroupValue Assembly → (done : Bool) → Type 0
GoesAlongBack work timestamp word slot left meaning done =
    (found : GroupValue) → meaning ≡ Ok found → (steps : List Step) → steps_asked found timestamp (asked_back work found word slot) ≡ Ok steps
    → (group : List ℕ) → found.config.group ≡ group → (past : Past (groups group)) → AreAllKept group past work.old → IsAdmitted group past work.old left found
    → ((done ≡ false) × ReadsOnly work.old work.new) ⊎ ((plan : IsBackPlanned work.old.sizes found timestamp word slot) × ComesAlongBack group work past left found plan done)

-- ---- what it costs

-- No more than the steps of the plan, each once, and each sector of the room once.
pub record CostsOfCopying {D : Type 0} (work : Work D) (found : GroupValue) (timestamp : ℕ) (word : List ℕ) (slot : ℕ) : Type 0 where
  pub plan : IsBackPlanned work.old.sizes found timestamp word slot
  pub most : WritesAtMost work (steps_sectors (plan.first ++ plan.last ∷ []) + depth_of plan.is_here.part.shape)

-- However a copyback ends, it costs nothing, or no more than that; without a group nothing.
abbrev pub CostsOfGoingBack : {D : Type 0} → Work D → (timestamp : ℕ) → (word : List ℕ) → (slot : ℕ) → Result GroupValue Assembly → Type 0
CostsOfGoingBack work timestamp word slot (Ok found) = WritesAtMost work 0 ⊎ CostsOfCopying work found timestamp word slot
CostsOfGoingBack work timestamp word slot (Err fault) = WritesAtMost work 0

-- ---- the command

-- A call came to this: what it made of the group that it took, by those of its disks that Linux reads. A slot of which every call fails is left out, but where
-- memory ran out.
pub record HasCopiedBack {D : Type 0} (work : Work D) (named : Option (List ℕ)) (timestamp : ℕ) (word : List ℕ) (slot : ℕ) (outcome : Result ℕ Failure) : Type 0 where
  pub linux : List ℕ
  pub taken : TakesGroup work named timestamp (copyback_request (length work.old.sizes) word slot linux) (is_done outcome)
  pub are_its : linux ≡ linux_found (group_of taken.newest named)
  pub gone : (outcome ≡ Err Memory → ⊥) → AreOut work.old taken.left
  pub gives : IsBackIn work timestamp word slot (group_of taken.newest named) outcome
  pub leaves : work.tells → LeavesGoingBack work timestamp word slot (group_of taken.newest named)
  pub along : work.tells → GoesAlongBack work timestamp word slot taken.left (group_of taken.newest named) (is_done outcome)
  pub costs : CostsOfGoingBack work timestamp word slot (group_of taken.newest named)

-- It came to this, and said so.
pub record IsCopybackDone {D : Type 0} (work : Work D) (named : Option (List ℕ)) (timestamp : ℕ) (word : List ℕ) (slot : ℕ) (answer : Answer) : Type 0 where
  pub outcome : Result ℕ Failure
  pub has : HasCopiedBack work named timestamp word slot outcome
  pub ends : IsToldChange outcome answer
