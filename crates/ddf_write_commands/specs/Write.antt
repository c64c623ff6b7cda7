-- What `write` does, and how it ends.
use Rattle.std.specs.Prelude.{◌≡◌, ◌⊎◌, ℕ, ◌+◌, ◌-◌, ◌*◌, ◌<◌, ◌≤◌, ◌==◌, Bool, true, false, not, List, [], ◌∷◌, ◌++◌, length, Option, Result, Ok, Err, if◌then◌else◌}
use Rattle.ddf_bytes.specs.Counts.{Rose}
use Rattle.ddf_bytes.specs.Streams.{GivesFront, SourceState, TakesFront}
use Rattle.ddf_bay.specs.Moments.{StopsLeave}
use Rattle.ddf_bay.specs.State.{BayState}
use Rattle.ddf_bay.specs.ReadsOnly.{ReadsOnly}
use Rattle.ddf_config.specs.declared.refusal.Refusal.TheVariants.{Degraded, Lost, Marked, ShortPayload}
use Rattle.ddf_config.specs.Refusals.{refuse_if}
use Rattle.ddf_config.specs.States.{is_marked}
use Rattle.ddf_plan.specs.declared.change.Change.{Change}
use Rattle.ddf_plan.specs.declared.change.Change.TheVariants.{Unmark}
use Rattle.ddf_array.specs.Viewing.{is_array_redundant, is_array_within, view_of}
use Rattle.ddf_cells.specs.CellsOn.{copy_cells, write_stretches}
use Rattle.ddf_array.specs.Volume.{Volume}
use Rattle.ddf_bay.specs.Sectors.{Image}
use Rattle.ddf_read.specs.Reading.{Failed}
use Rattle.ddf_write.specs.Beside.{NoneLeftBeside}
use Rattle.ddf_write.specs.Keeping.{AreTheirValues, Keeping}
use Rattle.ddf_write.specs.Looking.{most_blocks, piece_of}
use Rattle.ddf_write.specs.RowWrites.{IsSure, keeps_parity_anywhere, row_cells}
use Rattle.ddf_write.specs.Writing.{HasWritten, IsAmongWrites, IsLeftByWrite}
use Rattle.ddf_pieces.specs.Pieces.{EndWithPiece, GrewByPieces}
use Rattle.ddf_pieces.specs.Coming.{HaveCome}
use Rattle.ddf_group.specs.declared.answer.Assembly.{Assembly}
use Rattle.ddf_steps.specs.Committed.{slots_of}
use Rattle.ddf_seats.specs.Group.{GroupValue}
use Rattle.ddf_assembly.specs.Group.{group_of}
use Rattle.ddf_recovery.specs.Ready.{readied}
use Rattle.ddf_recovery.specs.Recovery.{config_recovered}
use Rattle.ddf_assembly.specs.Slots.{AreOut}
use Rattle.ddf_text.specs.Done.{cut_line, sequence_line}
use Rattle.ddf_steps.specs.Steps.{Step}
use Rattle.ddf_answer.specs.declared.failure.Failure.{Failure}
use Rattle.ddf_answer.specs.declared.failure.Failure.TheVariants.{Conflict, Disk, Memory, Refused, Split}
use Rattle.ddf_answer.specs.Answers.{IsToldFailure}
use Rattle.ddf_answer.specs.Call.{Answer, Input, Work, work_of}
use Rattle.ddf_answer.specs.Costs.{WritesAtMost}
use Rattle.ddf_answer.specs.Tells.{ClosesWith}
use Rattle.ddf_group_commands.specs.Change.{KeepsHistories, Request, TakesGroup, is_done, steps_of}
use Rattle.ddf_group_commands.specs.Costs.{steps_sectors}
use Rattle.ddf_group_commands.specs.GroupRead.{IsFoundBy}
use Rattle.ddf_group_commands.specs.Others.{LeavesOthers}
use Rattle.ddf_read_commands.specs.declared.using.Access.TheVariants.{Writes}
use Rattle.ddf_read_commands.specs.Read.{most_looks}
use Rattle.ddf_read_commands.specs.Use.{array_refusals}
use Rattle.ddf_write_commands.specs.Along.{AllComeAlong, GoesAlong}
use Rattle.ddf_write_commands.specs.Costs.{CostsOfDoing}
use Rattle.ddf_write_commands.specs.Doing.{Doing}
use Rattle.ddf_write_commands.specs.declared.payload.PayloadFault.{PayloadFault}
use Rattle.ddf_write_commands.specs.declared.payload.PayloadFault.TheVariants as payloads
use Rattle.ddf_write_commands.specs.declared.planning.Plan.{Plan}
use Rattle.ddf_write_commands.specs.declared.writing.Done.{Done}
use Rattle.ddf_write_commands.specs.declared.writing.WriteFault.{WriteFault}
use Rattle.ddf_write_commands.specs.declared.writing.WriteFault.TheVariants as faults
use Rattle.ddf_write_commands.specs.Payload.{ArePiecesOf, InputRose, IsPayload, IsShort, IsTakenBy, IsUntaken, Pieces}
use Rattle.ddf_write_commands.specs.Planned.{Entry, IsPlanned, Refusing, lacks_position, request_around}
use Rattle.ddf_write_commands.specs.Plans.{IsPlanOf}
use Rattle.ddf_write_commands.specs.Worked.{IsArrayDone, IsArrayLeft, IsLeftDoing, IsLeftIn, IsWorkedIn, IsWorkedOf, LeavesDoing}

-- ---- what is asked of the group

-- Behind its blocks the array's mark is cleared, where it was set for them; how far the array is initialized stays.
abbrev pub write_behind : Entry → List Change
write_behind entry = if is_array_redundant entry.1 then Unmark entry.0 entry.1.init ∷ [] else []

-- Behind what any use of its blocks is refused for: the array isn't within its level; it is marked; an element that keeps parity lacks a position.
abbrev pub write_refusals : (start count : ℕ) → Refusing
write_refusals start count config seats entry =
    array_refusals Writes config seats entry.0 entry.1 start count
    ++ refuse_if (not (is_array_within seats entry.1)) Lost
    ∷ refuse_if (is_marked entry.1) Marked
    ∷ refuse_if (lacks_position (view_of config entry.0 seats)) Degraded
    ∷ []

abbrev pub write_request : (word : List ℕ) → (start count : ℕ) → Request
write_request word start count = request_around (write_refusals start count) write_behind word

-- ---- what is done to the blocks

-- The blocks from a number on get the bytes of these sectors, piece by piece. The parity of their rows is right where what lies beside them is sure. No read is
-- needed once it has begun.
abbrev pub writing_where : (sure : (failed : ℕ → Type 0) → Volume → (before : Image) → Type 0) → (start : ℕ) → (sectors : List (List ℕ)) → Doing
writing_where sure start sectors = record {
  IsAmong = λ volume before may image. IsAmongWrites volume start sectors may image;
  IsLeft = λ volume before image. IsLeftByWrite volume start sectors before image;
  HasDone = λ failed volume before image. HasWritten volume start sectors (sure failed volume before) image;
  NoneLeft = λ failed volume slot. ⊥;
  most_sectors = λ volume. copy_cells volume start (length sectors) + row_cells volume (length sectors);
}

-- it is where no read failed, or where the array was redundant
abbrev pub writing : (start : ℕ) → (sectors : List (List ℕ)) → Doing
writing start sectors = writing_where IsSure start sectors

-- between the steps: where what was kept of it are its values
abbrev pub writing_beside : Keeping → (start : ℕ) → (sectors : List (List ℕ)) → Doing
writing_beside kept start sectors = writing_where (λ failed volume before. AreTheirValues volume before kept) start sectors

-- What comes before it: what lies beside so many blocks is looked at, and nothing is written.
abbrev pub looking : (start count : ℕ) → Doing
looking start count = record (writing start []) { NoneLeft = λ failed volume slot. NoneLeftBeside failed volume start count slot }

-- ---- what came of it

-- What came of a write: these sectors were given to be written, and this came of the work; these, one at least, were written, and then a read of the
-- input failed; the input ended within the first piece; a read of it failed there; or nothing was taken from it, for this reason: the group refuses it, a cell
-- beside the blocks can't be read, or memory ran out.
pub data Outcome : Type 0 where
  Taken : (sectors : List (List ℕ)) → (worked : Result ℕ Failure) → Outcome
  Broken : (sectors : List (List ℕ)) → Outcome
  Short : (found : ℕ) → Outcome
  NotRead : Outcome
  Unfit : (failure : Failure) → Outcome

abbrev pub is_written : Outcome → Bool
is_written (Taken sectors worked) = is_done worked
is_written (Broken sectors) = false
is_written (Short found) = false
is_written NotRead = false
is_written (Unfit failure) = false

-- Nothing of the group refuses it, and the blocks go in these pieces: so the input is read at all.
pub record IsAccepted (timestamp : ℕ) (word : List ℕ) (start count : ℕ) (pieces : Pieces) (meaning : Result GroupValue Assembly) : Type 0 where
  pub found : GroupValue
  pub is_found : meaning ≡ Ok found
  pub steps : List Step
  pub are_asked : steps_of found timestamp (write_request word start count) ≡ Ok steps
  pub plan : IsPlanned found timestamp word (write_request word start count)
  pub are_pieces : ArePiecesOf plan.volume start count pieces

module _ {D : Type 0} (work : Work D) (input : Input) (timestamp : ℕ) (word : List ℕ) (start count : ℕ) where
  abbrev pub request : Request
  request = write_request word start count

  -- What came of the group, and of the input. Where a cell beside the blocks can't be read nothing is written, and nothing is taken of the input; once these are
  -- written only a write or a sync that fails ends the work.
  module _ (pieces : Pieces) where
    abbrev pub IsWriteIn : Result GroupValue Assembly → Outcome → Type 0
    IsWriteIn meaning (Taken sectors worked) =
        ((left : List ℕ) × IsPayload input pieces count sectors left × IsTakenBy input pieces count sectors left worked) × IsAccepted timestamp word start count pieces meaning
        × IsWorkedIn (writing start sectors) work timestamp word request meaning worked
    IsWriteIn meaning (Broken sectors) =
        ((left : List ℕ) × IsPayload input pieces count sectors left × (0 < length sectors) × (length sectors < count) × InputRose input)
        × IsAccepted timestamp word start count pieces meaning × IsLeftIn (writing start sectors) work timestamp word request meaning
    IsWriteIn meaning (Short found) = IsShort input pieces count found × IsAccepted timestamp word start count pieces meaning × ReadsOnly work.old work.new
    IsWriteIn meaning NotRead = InputRose input × IsAccepted timestamp word start count pieces meaning × ReadsOnly work.old work.new
    IsWriteIn meaning (Unfit failure) = IsUntaken input × ReadsOnly work.old work.new × IsWorkedIn (looking start count) work timestamp word request meaning (Err failure)

  -- what a stop leaves, at every moment: without the bytes, nothing else than before
  abbrev pub LeavesWriting : Result GroupValue Assembly → Outcome → Type 0
  LeavesWriting meaning (Taken sectors worked) = LeavesDoing (writing start sectors) work timestamp word request meaning
  LeavesWriting meaning (Broken sectors) = LeavesDoing (writing start sectors) work timestamp word request meaning
  LeavesWriting meaning (Short found) = Unit {0}
  LeavesWriting meaning NotRead = Unit {0}
  LeavesWriting meaning (Unfit failure) = Unit {0}

  -- how far the histories come meanwhile: without the bytes, nowhere
  abbrev pub GoesAlongWriting : (left : List Bool) → Result GroupValue Assembly → Outcome → Type 0
  GoesAlongWriting left meaning (Taken sectors worked) = GoesAlong (writing start sectors) work left timestamp word request (is_done worked) meaning
  GoesAlongWriting left meaning (Broken sectors) = GoesAlong (writing start sectors) work left timestamp word request false meaning
  GoesAlongWriting left meaning (Short found) = Unit {0}
  GoesAlongWriting left meaning NotRead = Unit {0}
  GoesAlongWriting left meaning (Unfit failure) = Unit {0}

  -- what it costs: without the bytes nothing
  abbrev pub CostsOfWriting : Result GroupValue Assembly → Outcome → Type 0
  CostsOfWriting meaning (Taken sectors worked) = CostsOfDoing (writing start sectors) work timestamp word request meaning
  CostsOfWriting meaning (Broken sectors) = CostsOfDoing (writing start sectors) work timestamp word request meaning
  CostsOfWriting meaning (Short found) = WritesAtMost work 0
  CostsOfWriting meaning NotRead = WritesAtMost work 0
  CostsOfWriting meaning (Unfit failure) = WritesAtMost work 0

-- ---- how often it calls

-- The most calls that it makes of a bay of so many slots beside those for its blocks: 15 to look at each, one sync of each for the recovery, 25 for each copy of the recovery, of the
-- mark and of the step behind the blocks, and one sync behind these.
abbrev pub most_beside : (slots : ℕ) → ℕ
most_beside slots = 92 * slots

-- It went on to the blocks of an array. Where no element of it keeps parity it made one call for each stretch of each piece, beside those.
pub record CallsOfPlan {D : Type 0} (work : Work D) (found : GroupValue) (timestamp : ℕ) (word : List ℕ) (start count : ℕ) : Type 0 where
  pub plan : IsPlanned found timestamp word (write_request word start count)
  pub most : keeps_parity_anywhere plan.volume ≡ false
      → GrewByPieces (write_stretches plan.volume) most_blocks start count (work.old.calls + most_beside (length work.old.sizes)) work.new.calls

-- However it ends, it only looked for the group, or made no more calls than that.
abbrev pub CallsOfWriting : {D : Type 0} → Work D → (timestamp : ℕ) → (word : List ℕ) → (start count : ℕ) → Result GroupValue Assembly → Type 0
CallsOfWriting work timestamp word start count (Ok found) = (work.new.calls ≤ work.old.calls + most_looks (length work.old.sizes)) ⊎ CallsOfPlan work found timestamp word start count
CallsOfWriting work timestamp word start count (Err fault) = work.new.calls ≤ work.old.calls + most_looks (length work.old.sizes)

-- ---- what came of a call

-- A call came to this: what it made of the group that it took, and of its input. A slot of which every call fails is left out, but where memory ran out before the input was read.
pub record HasWrittenArray {D : Type 0} (work : Work D) (input : Input) (named : Option (List ℕ)) (timestamp : ℕ) (word : List ℕ) (start count : ℕ) (outcome : Outcome) : Type 0 where
  pub taken : TakesGroup work named timestamp (write_request word start count) (is_written outcome)
  pub gone : (outcome ≡ Unfit Memory → ⊥) → AreOut work.old taken.left
  pub pieces : Pieces
  pub gives : IsWriteIn work input timestamp word start count pieces (group_of taken.newest named) outcome
  pub leaves : work.tells → LeavesWriting work input timestamp word start count (group_of taken.newest named) outcome
  pub along : work.tells → GoesAlongWriting work input timestamp word start count taken.left (group_of taken.newest named) outcome
  pub costs : CostsOfWriting work input timestamp word start count (group_of taken.newest named) outcome
  pub calls : CallsOfWriting work timestamp word start count (group_of taken.newest named)

-- ---- what is told of it

-- The text was told where the status is that of a write that was cut, and else a front of it.
pub record ClosesCut (text : List ℕ) (answer : Answer) : Type 0 where
  pub ends : (answer.status ≡ 7) ⊎ (answer.status ≡ 6)
  pub whole : answer.tells → answer.status ≡ 7 → answer.new.taken ≡ answer.old.taken ++ text
  pub front : answer.tells → TakesFront answer.old answer.new text

-- of so many blocks so many are written: all, or those that came before the input ended
abbrev pub IsSequenceTold : (all : Bool) → (blocks sequence : ℕ) → Answer → Type 0
IsSequenceTold true blocks sequence answer = ClosesWith 0 (sequence_line sequence) answer
IsSequenceTold false blocks sequence answer = ClosesCut (cut_line blocks sequence) answer

abbrev pub IsDoneTold : (count : ℕ) → Done → Answer → Type 0
IsDoneTold count done answer = IsSequenceTold (done.blocks == count) done.blocks done.sequence answer

-- what is told of a write of so many blocks, and with which status
abbrev pub IsWriteTold : (count : ℕ) → Outcome → Answer → Type 0
IsWriteTold count (Taken sectors (Ok sequence)) answer = IsSequenceTold (length sectors == count) (length sectors) sequence answer
IsWriteTold count (Taken sectors (Err failure)) answer = IsToldFailure failure answer
IsWriteTold count (Broken sectors) answer = (answer.status ≡ 6) × (answer.tells → answer.new.taken ≡ answer.old.taken)
IsWriteTold count (Short found) answer = IsToldFailure (Refused (ShortPayload found)) answer
IsWriteTold count NotRead answer = (answer.status ≡ 6) × (answer.tells → answer.new.taken ≡ answer.old.taken)
IsWriteTold count (Unfit failure) answer = IsToldFailure failure answer

-- It came to this, and said so.
pub record IsWriteDone {D : Type 0} (work : Work D) (input : Input) (named : Option (List ℕ)) (timestamp : ℕ) (word : List ℕ) (start count : ℕ) (answer : Answer) : Type 0 where
  pub outcome : Outcome
  pub has : HasWrittenArray work input named timestamp word start count outcome
  pub ends : IsWriteTold count outcome answer

-- ---- as it is answered

-- why there is nothing to write
abbrev pub fault_of_payload : PayloadFault → WriteFault
fault_of_payload (payloads.Short found) = faults.Failure (Refused (ShortPayload found))
fault_of_payload payloads.Failed = faults.Input
fault_of_payload payloads.Memory = faults.Failure Memory

-- what the write came to, or why it wasn't done
abbrev pub answered : Outcome → Result Done WriteFault
answered (Taken sectors (Ok sequence)) = Ok (record { blocks = length sectors; sequence = sequence })
answered (Taken sectors (Err failure)) = Err (faults.Failure failure)
answered (Broken sectors) = Err faults.Input
answered (Short found) = Err (faults.Failure (Refused (ShortPayload found)))
answered NotRead = Err faults.Input
answered (Unfit failure) = Err (faults.Failure failure)

-- A call came to what it answers.
pub record IsWrittenAs {D : Type 0} (work : Work D) (input : Input) (named : Option (List ℕ)) (timestamp : ℕ) (word : List ℕ) (start count : ℕ) (result : Result Done WriteFault) : Type 0 where
  pub outcome : Outcome
  pub is_answered : result ≡ answered outcome
  pub has : HasWrittenArray work input named timestamp word start count outcome

-- ---- before the steps

-- why what lies beside blocks isn't known: no source of a cell is left at a slot, or memory ran out
abbrev pub IsUnseen : {D : Type 0} → (old new : BayState D) → Volume → (start count : ℕ) → Failure → Type 0
IsUnseen old new volume start count (Disk slot) = NoneLeftBeside (Failed old new) volume start count slot
IsUnseen old new volume start count Memory = Unit {0}
IsUnseen old new volume start count (Refused refusal) = ⊥
IsUnseen old new volume start count (Conflict i j sequence differ) = ⊥
IsUnseen old new volume start count (Split i j) = ⊥

-- ---- between the steps

-- The sectors were given to be written, of so many blocks: those of a first piece, and what the source gave behind it. So much was left of it.
pub record AreGiven (source_tells : Type 0) (before : SourceState) (first : List ℕ) (pieces : Pieces) (count : ℕ) (sectors : List (List ℕ)) (left : List ℕ) : Type 0 where
  pub ends : EndWithPiece pieces.each pieces.ahead count (length sectors)
  pub come : HaveCome source_tells before first sectors left

-- what the source gave of them: all, or whole pieces and then its end; or, where the work failed, all of these, or none where it failed before; or it failed behind these
abbrev pub IsGivenFor : (source_tells : Type 0) → (before after : SourceState) → (first : List ℕ) → Pieces → (count : ℕ) → (sectors : List (List ℕ)) → Result Done WriteFault → Type 0
IsGivenFor source_tells before after first pieces count sectors (Ok done) =
    (length sectors ≡ done.blocks) × (after.faults ≡ before.faults)
    × ((left : List ℕ) × AreGiven source_tells before first pieces count sectors left
    × (((length sectors ≡ count) × (source_tells → after.left ≡ left))
    ⊎ ((0 < length sectors) × (length sectors < count)
    × (source_tells → (length left < 512 * piece_of pieces.each pieces.ahead (length sectors) (count - length sectors)) × (after.left ≡ [])))))
IsGivenFor source_tells before after first pieces count sectors (Err (faults.Failure failure)) =
    ((sectors ≡ []) × (after ≡ before))
    ⊎ ((left : List ℕ) × AreGiven source_tells before first pieces count sectors left × (source_tells → GivesFront (record before { left = left }) after))
IsGivenFor source_tells before after first pieces count sectors (Err faults.Input) =
    (left : List ℕ) × AreGiven source_tells before first pieces count sectors left × (length sectors < count) × Rose before.faults after.faults
    × (source_tells → GivesFront (record before { left = left }) after)

-- what came of the work
abbrev pub IsEndedOf : {D : Type 0} → Doing → Work D → GroupValue → (timestamp : ℕ) → (word : List ℕ) → Request → Result Done WriteFault → Type 0
IsEndedOf doing work found timestamp word request (Ok done) = IsArrayDone doing work found timestamp word request done.sequence
IsEndedOf doing work found timestamp word request (Err (faults.Failure failure)) = IsWorkedOf doing work found timestamp word request (Err failure)
IsEndedOf doing work found timestamp word request (Err faults.Input) = IsArrayLeft doing work found timestamp word request

abbrev pub is_all_done : Result Done WriteFault → Bool
is_all_done (Ok done) = true
is_all_done (Err fault) = false

-- The blocks of an array were written so far between the steps of its group, by a plan and by what was kept of what lies beside them.
pub record HasWrittenBlocks {D : Type 0} (tells : Type 0) (old new : BayState D) (group : GroupValue) (plan : Plan) (timestamp start count : ℕ) (kept : Keeping) (pieces : Pieces) (source_tells : Type 0)
    (before after : SourceState) (first : List ℕ) (sectors : List (List ℕ)) (result : Result Done WriteFault) : Type 0 where
  pub given : IsGivenFor source_tells before after first pieces count sectors result
  pub worked : (word : List ℕ) → IsPlanOf (write_refusals start count) write_behind (config_recovered group) group.seats word plan
      → IsEndedOf (writing_beside kept start sectors) (work_of tells old new) group timestamp word (write_request word start count) result
  pub leaves : tells → (word : List ℕ) → IsPlanOf (write_refusals start count) write_behind (config_recovered group) group.seats word plan
      → StopsLeave old new (IsLeftDoing (writing_beside kept start sectors) (work_of tells old new) group timestamp word (write_request word start count))
  pub beside : tells → LeavesOthers old new (slots_of group.seats)
  pub keeps : tells → (left : List Bool) (named : Option (List ℕ)) → IsFoundBy old left named group → (steps : List Step) → readied group plan.changes timestamp ≡ Ok steps
      → KeepsHistories old new left group steps (is_all_done result)
  pub along : tells → (left : List Bool) (named : Option (List ℕ)) → IsFoundBy old left named group
      → (word : List ℕ) → IsPlanOf (write_refusals start count) write_behind (config_recovered group) group.seats word plan
      → AllComeAlong (writing_beside kept start sectors) (work_of tells old new) left group timestamp word (write_request word start count) (is_all_done result)
  pub costs : (steps : List Step) → readied group plan.changes timestamp ≡ Ok steps → WritesAtMost (work_of tells old new) (steps_sectors steps + (writing_beside kept start sectors).most_sectors plan.view)
