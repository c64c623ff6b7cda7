-- What came of a command that works on the blocks of an array.
use Rattle.std.specs.Prelude.{◌≡◌, ◌⊎◌, ℕ, ◌<◌, List, ◌++◌, length, Result, Ok, Err}
use Rattle.ddf_bytes.specs.Counts.{Rose}
use Rattle.ddf_bay.specs.Moments.{StopsLeave}
use Rattle.ddf_bay.specs.ReadsOnly.{ReadsOnly}
use Rattle.ddf_bay.specs.Sectors.{Image, IsLeft}
use Rattle.ddf_array.specs.Sound.{AreSectors}
use Rattle.ddf_array.specs.Volume.{Volume}
use Rattle.ddf_update.specs.Group.{IsOneOf}
use Rattle.ddf_read.specs.Reading.{Failed}
use Rattle.ddf_group.specs.declared.answer.Assembly.{Assembly}
use Rattle.ddf_steps.specs.Committed.{AreSettled, slots_of}
use Rattle.ddf_seats.specs.Group.{GroupValue}
use Rattle.ddf_steps.specs.Steps.{Step}
use Rattle.ddf_answer.specs.declared.failure.Failure.{Failure}
use Rattle.ddf_answer.specs.declared.failure.Failure.TheVariants.{Conflict, Disk, Memory, Refused, Split}
use Rattle.ddf_answer.specs.Answers.{failure_of}
use Rattle.ddf_answer.specs.Call.{Work}
use Rattle.ddf_group_commands.specs.Change.{Request, last_sequence, steps_of}
use Rattle.ddf_group_commands.specs.Writing.{IsLeftWriting}
use Rattle.ddf_group_commands.specs.Written.{AreWritten}
use Rattle.ddf_write_commands.specs.Doing.{Doing}
use Rattle.ddf_write_commands.specs.Holding.{holding}
use Rattle.ddf_write_commands.specs.Planned.{IsPlanned}

-- The work was done between the steps: over what the disks held behind the first of these, before the last. Beside the steps' copies no sector is another one but
-- those that the work gives bytes. Nothing is pending on the group's slots in the end. The sectors of what the disks held in between have 512 bytes, where the bay still tells
-- what a stop may leave.
pub record AreBlocksDone {D : Type 0} (doing : Doing) (work : Work D) (found : GroupValue) (first last : List Step) (volume : Volume) : Type 0 where
  pub before : Image
  pub behind : Image
  pub first_written : AreWritten work.old.sizes work.old.held first before
  pub has_done : doing.HasDone (Failed work.old work.new) volume before behind
  pub is_left : doing.IsLeft volume before behind
  pub last_written : AreWritten work.old.sizes behind last work.new.held
  pub are_sectors : work.new.tells_left → AreSectors behind
  pub are_settled : AreSettled work.new found.seats (length found.seats)

-- All was done, and this is the group's sequence number behind it.
pub record IsArrayDone {D : Type 0} (doing : Doing) (work : Work D) (found : GroupValue) (timestamp : ℕ) (word : List ℕ) (request : Request) (sequence : ℕ) : Type 0 where
  pub plan : IsPlanned found timestamp word request
  pub is_last : sequence ≡ last_sequence found.config.sequence (plan.first ++ plan.last)
  pub done : work.tells → AreBlocksDone doing work found plan.first plan.last plan.volume

-- The first steps were written, and of what the disks held behind them no sector is another one but those that the work gives bytes.
abbrev pub HasBegun : {D : Type 0} → Doing → Work D → (first : List Step) → Volume → Type 0
HasBegun doing work first volume = (before : Image) × AreWritten work.old.sizes work.old.held first before × doing.IsLeft volume before work.new.held

-- It wasn't: a write or a sync of this slot, a seat's, failed in the call; or a read did, and no source is left there of a cell that the work needs: before anything was
-- written, or behind the first steps.
pub record IsArrayStopped {D : Type 0} (doing : Doing) (work : Work D) (found : GroupValue) (timestamp : ℕ) (word : List ℕ) (request : Request) (slot : ℕ) : Type 0 where
  pub plan : IsPlanned found timestamp word request
  pub is_seat : IsOneOf (slots_of found.seats) slot
  pub there : slot < length work.old.sizes
  pub stopped : Rose (work.old.failed_writes slot) (work.new.failed_writes slot)
      ⊎ (doing.NoneLeft (Failed work.old work.new) plan.volume slot × (ReadsOnly work.old work.new ⊎ (work.tells → HasBegun doing work plan.first plan.volume)))

-- The work was done behind the first steps, and the last step wasn't begun: a redundant array has its mark.
pub record IsArrayLeft {D : Type 0} (doing : Doing) (work : Work D) (found : GroupValue) (timestamp : ℕ) (word : List ℕ) (request : Request) : Type 0 where
  pub plan : IsPlanned found timestamp word request
  pub left : work.tells → (before : Image) × AreWritten work.old.sizes work.old.held plan.first before × doing.HasDone (Failed work.old work.new) plan.volume before work.new.held
      × doing.IsLeft plan.volume before work.new.held

-- what came of a group: all was done; it is refused, or memory ran out, and nothing was written; or a slot failed
abbrev pub IsWorkedOf : {D : Type 0} → Doing → Work D → GroupValue → (timestamp : ℕ) → (word : List ℕ) → Request → Result ℕ Failure → Type 0
IsWorkedOf doing work found timestamp word request (Ok sequence) = IsArrayDone doing work found timestamp word request sequence
IsWorkedOf doing work found timestamp word request (Err (Refused refusal)) = (steps_of found timestamp request ≡ Err (Refused refusal)) × ReadsOnly work.old work.new
IsWorkedOf doing work found timestamp word request (Err (Disk slot)) = IsArrayStopped doing work found timestamp word request slot
IsWorkedOf doing work found timestamp word request (Err Memory) = ReadsOnly work.old work.new
IsWorkedOf doing work found timestamp word request (Err (Conflict i j sequence differ)) = ⊥
IsWorkedOf doing work found timestamp word request (Err (Split i j)) = ⊥

abbrev pub IsWorkedIn : {D : Type 0} → Doing → Work D → (timestamp : ℕ) → (word : List ℕ) → Request → Result GroupValue Assembly → Result ℕ Failure → Type 0
IsWorkedIn doing work timestamp word request (Ok found) outcome = IsWorkedOf doing work found timestamp word request outcome
IsWorkedIn doing work timestamp word request (Err fault) outcome = ((outcome ≡ Err (failure_of fault)) ⊎ (outcome ≡ Err Memory)) × ReadsOnly work.old work.new

-- the same of a group, if there is one
abbrev pub IsLeftIn : {D : Type 0} → Doing → Work D → (timestamp : ℕ) → (word : List ℕ) → Request → Result GroupValue Assembly → Type 0
IsLeftIn doing work timestamp word request (Ok found) = IsArrayLeft doing work found timestamp word request
IsLeftIn doing work timestamp word request (Err fault) = ⊥

-- ---- what a stop leaves

-- The first steps are written, and the work is under way.
pub record IsLeftWorking {D : Type 0} (doing : Doing) (work : Work D) (found : GroupValue) (first : List Step) (volume : Volume) (image : Image) : Type 0 where
  pub before : Image
  pub first_written : AreWritten work.old.sizes work.old.held first before
  pub is_among : doing.IsAmong volume before (holding work.old (slots_of found.seats) before).may_hold image

-- The first steps are written, the work is done for sure, and the last step is under way.
pub record IsLeftClosing {D : Type 0} (doing : Doing) (work : Work D) (found : GroupValue) (first last : List Step) (volume : Volume) (image : Image) : Type 0 where
  pub before : Image
  pub behind : Image
  pub first_written : AreWritten work.old.sizes work.old.held first before
  pub has_done : doing.HasDone (Failed work.old work.new) volume before behind
  pub is_left : doing.IsLeft volume before behind
  pub are_sectors : AreSectors behind
  pub is_writing : IsLeftWriting (holding work.old (slots_of found.seats) behind) last image

-- A stop leaves the first steps under way, or the work behind them, or the last step behind that.
pub record IsLeftDoing {D : Type 0} (doing : Doing) (work : Work D) (found : GroupValue) (timestamp : ℕ) (word : List ℕ) (request : Request) (image : Image) : Type 0 where
  pub plan : IsPlanned found timestamp word request
  pub is_left :
      IsLeftWriting work.old plan.first image ⊎ IsLeftWorking doing work found plan.first plan.volume image
      ⊎ IsLeftClosing doing work found plan.first plan.last plan.volume image

-- A stop at every moment of a call leaves what it might have left before, or such an image, where nothing is refused.
abbrev pub LeavesDoing : {D : Type 0} → Doing → Work D → (timestamp : ℕ) → (word : List ℕ) → Request → Result GroupValue Assembly → Type 0
LeavesDoing doing work timestamp word request meaning =
    (found : GroupValue) → meaning ≡ Ok found → (steps : List Step) → steps_of found timestamp request ≡ Ok steps
    → StopsLeave work.old work.new (λ image. IsLeft work.old.may_hold image ⊎ IsLeftDoing doing work found timestamp word request image)
