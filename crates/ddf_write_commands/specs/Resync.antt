-- What `resync` does, and how it ends.
use Rattle.std.specs.Prelude.{◌≡◌, ◌⊎◌, ℕ, ◌+◌, Bool, false, not, List, [], ◌∷◌, ◌++◌, Option, Result, Ok, Err, if◌then◌else◌}
use Rattle.ddf_bay.specs.Moments.{StopsLeave}
use Rattle.ddf_bay.specs.Sectors.{Image}
use Rattle.ddf_bay.specs.State.{BayState}
use Rattle.ddf_config.specs.declared.refusal.Refusal.{Refusal}
use Rattle.ddf_config.specs.declared.refusal.Refusal.TheVariants.{Lost, Unsure}
use Rattle.ddf_config.specs.declared.seat.Seat.{Seat}
use Rattle.ddf_config.specs.Configuration.{Configuration}
use Rattle.ddf_config.specs.Refusals.{refuse_if}
use Rattle.ddf_config.specs.States.{is_marked}
use Rattle.ddf_plan.specs.declared.change.Change.{Change}
use Rattle.ddf_plan.specs.declared.change.Change.TheVariants.{Unmark}
use Rattle.ddf_array.specs.Viewing.{is_array_within, view_of}
use Rattle.ddf_array.specs.Volume.{Volume}
use Rattle.ddf_array.specs.Within.{is_redundant}
use Rattle.ddf_read.specs.Reading.{Failed}
use Rattle.ddf_resync.specs.Compared.{HasDiffered}
use Rattle.ddf_resync.specs.Resyncing.{HasResynced, IsAmongResynced, IsLeftByResync, IsUnread, NoneLeftOfBlock, NoneLeftOfRow}
use Rattle.ddf_resync.specs.Several.{resync_sectors}
use Rattle.ddf_steps.specs.Committed.{slots_of}
use Rattle.ddf_seats.specs.Group.{GroupValue}
use Rattle.ddf_assembly.specs.Group.{group_of}
use Rattle.ddf_recovery.specs.Ready.{readied}
use Rattle.ddf_recovery.specs.Recovery.{config_recovered}
use Rattle.ddf_assembly.specs.Slots.{AreOut}
use Rattle.ddf_steps.specs.Steps.{Step}
use Rattle.ddf_answer.specs.declared.failure.Failure.{Failure}
use Rattle.ddf_answer.specs.declared.failure.Failure.TheVariants.{Disk, Memory}
use Rattle.ddf_answer.specs.Call.{Answer, Work, work_of}
use Rattle.ddf_answer.specs.Costs.{WritesAtMost}
use Rattle.ddf_group_commands.specs.Change.{IsToldChange, KeepsHistories, Request, TakesGroup, is_done}
use Rattle.ddf_group_commands.specs.Costs.{steps_sectors}
use Rattle.ddf_group_commands.specs.GroupRead.{IsFoundBy}
use Rattle.ddf_group_commands.specs.Others.{LeavesOthers}
use Rattle.ddf_group_commands.specs.Written.{AreWritten}
use Rattle.ddf_read_commands.specs.declared.using.Access.TheVariants.{Reads}
use Rattle.ddf_read_commands.specs.Use.{array_refusals}
use Rattle.ddf_write_commands.specs.declared.planning.Plan.{Plan}
use Rattle.ddf_write_commands.specs.Along.{AllComeAlong, GoesAlong}
use Rattle.ddf_write_commands.specs.Costs.{CostsOfDoing}
use Rattle.ddf_write_commands.specs.Doing.{Doing}
use Rattle.ddf_write_commands.specs.Planned.{Entry, IsPlanned, lacks_position, request_around}
use Rattle.ddf_write_commands.specs.Plans.{IsPlanOf}
use Rattle.ddf_write_commands.specs.Worked.{IsLeftDoing, IsWorkedIn, IsWorkedOf, LeavesDoing}

-- how far an array is initialized once it was resynced: wholly
abbrev pub wholly : ℕ
wholly = 2

-- behind its blocks its mark is cleared
abbrev pub resync_behind : Entry → List Change
resync_behind entry = Unmark entry.0 wholly ∷ []

-- Behind what any use of its blocks is refused for: the array isn't within its level; an element that keeps parity lacks a position.
abbrev pub resync_refusals : Configuration → List Seat → Entry → List (Option Refusal)
resync_refusals config seats entry =
    array_refusals Reads config seats entry.0 entry.1 0 0
    ++ refuse_if (not (is_array_within seats entry.1)) Lost
    ∷ refuse_if (lacks_position (view_of config entry.0 seats)) Unsure
    ∷ []

abbrev pub resync_request : (word : List ℕ) → Request
resync_request word = request_around resync_refusals resync_behind word

-- What it does to the blocks: of an array that keeps what it holds in one place only, nothing.
abbrev pub resyncing : Doing
resyncing = record {
  IsAmong = λ volume before may image. IsAmongResynced volume (Unit {0}) before may image;
  IsLeft = λ volume before image. IsLeftByResync volume (Unit {0}) before image;
  HasDone = λ failed volume before image. HasResynced failed volume before image;
  NoneLeft = λ failed volume slot. NoneLeftOfBlock failed volume slot ⊎ NoneLeftOfRow failed volume slot;
  most_sectors = λ volume. if is_redundant volume then resync_sectors volume else 0;
}

-- Behind the first steps the array wasn't redundant, or a read failed on a slot that has a sector of those that a scrub compares.
pub record DifferedBehind {D : Type 0} (work : Work D) (first : List Step) (volume : Volume) : Type 0 where
  pub before : Image
  pub first_written : AreWritten work.old.sizes work.old.held first before
  pub has_differed : HasDiffered volume before work.old work.new

-- Of an array that isn't marked no sectors are asked for but those of the steps, unless it differed behind the first of these.
abbrev pub SparesWhatAgrees : {D : Type 0} → Work D → GroupValue → (timestamp : ℕ) → (word : List ℕ) → Type 0
SparesWhatAgrees work found timestamp word =
    (plan : IsPlanned found timestamp word (resync_request word)) → is_marked plan.entry.1 ≡ false
    → WritesAtMost work (steps_sectors (plan.first ++ plan.last)) ⊎ DifferedBehind work plan.first plan.volume

-- A call came to this: what it made of the group that it took. A slot of which every call fails is left out, but where memory ran out.
pub record HasResyncedArray {D : Type 0} (work : Work D) (named : Option (List ℕ)) (timestamp : ℕ) (word : List ℕ) (outcome : Result ℕ Failure) : Type 0 where
  pub taken : TakesGroup work named timestamp (resync_request word) (is_done outcome)
  pub gone : (outcome ≡ Err Memory → ⊥) → AreOut work.old taken.left
  pub gives : IsWorkedIn resyncing work timestamp word (resync_request word) (group_of taken.newest named) outcome
  pub leaves : work.tells → LeavesDoing resyncing work timestamp word (resync_request word) (group_of taken.newest named)
  pub along : work.tells → GoesAlong resyncing work taken.left timestamp word (resync_request word) (is_done outcome) (group_of taken.newest named)
  pub costs : CostsOfDoing resyncing work timestamp word (resync_request word) (group_of taken.newest named)
  pub spares : work.tells → (found : GroupValue) → group_of taken.newest named ≡ Ok found → SparesWhatAgrees work found timestamp word

-- It came to this, and said so.
pub record IsResyncDone {D : Type 0} (work : Work D) (named : Option (List ℕ)) (timestamp : ℕ) (word : List ℕ) (answer : Answer) : Type 0 where
  pub outcome : Result ℕ Failure
  pub has : HasResyncedArray work named timestamp word outcome
  pub ends : IsToldChange outcome answer

-- ---- the calls behind the reading of the group

-- A look at what the resync of an array reads ended at a slot: no source is left there.
pub record IsUnreadAt {D : Type 0} (old new : BayState D) (volume : Volume) (failure : Failure) : Type 0 where
  pub slot : ℕ
  pub is : failure ≡ Disk slot
  pub none_left : IsUnread (Failed old new) volume slot

-- An array was resynced so far between the steps of its group, by a plan.
pub record HasResyncedBlocks {D : Type 0} (tells : Type 0) (old new : BayState D) (group : GroupValue) (plan : Plan) (timestamp : ℕ) (outcome : Result ℕ Failure) : Type 0 where
  pub worked : (word : List ℕ) → IsPlanOf resync_refusals resync_behind (config_recovered group) group.seats word plan
      → IsWorkedOf resyncing (work_of tells old new) group timestamp word (resync_request word) outcome
  pub leaves : tells → (word : List ℕ) → IsPlanOf resync_refusals resync_behind (config_recovered group) group.seats word plan
      → StopsLeave old new (IsLeftDoing resyncing (work_of tells old new) group timestamp word (resync_request word))
  pub beside : tells → LeavesOthers old new (slots_of group.seats)
  pub keeps : tells → (left : List Bool) (named : Option (List ℕ)) → IsFoundBy old left named group → (steps : List Step) → readied group plan.changes timestamp ≡ Ok steps
      → KeepsHistories old new left group steps (is_done outcome)
  pub along : tells → (left : List Bool) (named : Option (List ℕ)) → IsFoundBy old left named group
      → (word : List ℕ) → IsPlanOf resync_refusals resync_behind (config_recovered group) group.seats word plan
      → AllComeAlong resyncing (work_of tells old new) left group timestamp word (resync_request word) (is_done outcome)
  pub costs : (steps : List Step) → readied group plan.changes timestamp ≡ Ok steps → WritesAtMost (work_of tells old new) (steps_sectors steps + resyncing.most_sectors plan.view)
  pub spares : tells → (word : List ℕ) → IsPlanOf resync_refusals resync_behind (config_recovered group) group.seats word plan → SparesWhatAgrees (work_of tells old new) group timestamp word
