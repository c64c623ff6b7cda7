-- A group that stands on its disks, with steps that are left to be written, and what comes of the next one.
use Rattle.std.specs.Prelude.{◌≡◌, ℕ, Bool, true, false, List, [], ◌∷◌, map, Option, option_to_list}
use Rattle.std.specs.List.{AllByRecursion}
use Rattle.ddf_bytes.specs.Counts.{Rose}
use Rattle.ddf_bay.specs.Moments.{StopsLeave}
use Rattle.ddf_bay.specs.Sectors.{Image, IsLeft}
use Rattle.ddf_bay.specs.State.{BayState}
use Rattle.ddf_cells.specs.Touching.{GoesBetween}
use Rattle.ddf_config.specs.declared.seat.Seat.{Seat}
use Rattle.ddf_update.specs.Group.{IsOneOf}
use Rattle.ddf_history.specs.Groups.{groups}
use Rattle.ddf_history.specs.Issued.{Past}
use Rattle.ddf_recovery.specs.Committed.{HoldsGroup, IsReadyFor, group_next, left_behind}
use Rattle.ddf_steps.specs.Committed.{slots_of}
use Rattle.ddf_seats.specs.Group.{GroupValue}
use Rattle.ddf_assembly.specs.Reading.{HaveAnchors}
use Rattle.ddf_steps.specs.Ready.{ReadyStep}
use Rattle.ddf_recovery.specs.Ready.{ReadyValue}
use Rattle.ddf_seats.specs.Seated.{seated, seats_in}
use Rattle.ddf_steps.specs.Steps.{Step}
use Rattle.ddf_history_steps.specs.Kept.{is_slot}
use Rattle.ddf_history_steps.specs.Steps.{KeepsStep, StandsReady, behind_next}
use Rattle.ddf_history_steps.specs.BlockFloors.{AreFloored}
use Rattle.ddf_answer.specs.declared.failure.Failure.{Failure}
use Rattle.ddf_answer.specs.declared.failure.Failure.TheVariants.{Conflict, Disk, Memory, Refused, Split}
use Rattle.ddf_group_commands.specs.Others.{LeavesOthers}
use Rattle.ddf_group_commands.specs.Writing.{IsLeftWriting}
use Rattle.ddf_group_commands.specs.Written.{AreWritten}

-- the step that comes next, where one is left, and that of a recovery, where there is one
abbrev pub next_in : List ReadyStep → List Step
next_in [] = []
next_in (one ∷ others) = one.step ∷ []

abbrev pub next_if : Bool → List ReadyStep → List Step
next_if true steps = next_in steps
next_if false steps = []

abbrev pub recovery_in : Option ReadyStep → List Step
recovery_in recovery = map (λ one. one.step) (option_to_list recovery)

-- no step loses a seat
abbrev pub KeepSeats : List Seat → List ReadyStep → Type 0
KeepSeats seats steps = AllByRecursion (λ one. seats_in one.step.disks ≡ seats) steps

-- The disks hold the group, its next steps can be written to them one after another, and each of its seats has its floor then.
pub record Stands {D : Type 0} (tells : Type 0) (disks : BayState D) (found : GroupValue) (ready : ReadyValue) : Type 0 where
  pub is_ready : IsReadyFor found ready
  pub anchored : HaveAnchors disks.sizes found.newest
  pub holds : tells → HoldsGroup disks found
  pub floored : AreFloored (seated found)
  pub keep_seats : KeepSeats found.seats ready.steps

-- Of each other slot a stop leaves what it might leave before.
abbrev pub AddsNothing : {D : Type 0} (old new : BayState D) → (slots : List ℕ) → Type 0
AddsNothing old new slots = (s l : ℕ) (bytes : List ℕ) → is_slot slots s ≡ false → new.may_hold s l bytes → old.may_hold s l bytes

-- a write or a sync of one of these slots failed
abbrev pub IsSlotFault : {D : Type 0} (old new : BayState D) → (slots : List ℕ) → Failure → Type 0
IsSlotFault old new slots (Disk slot) = IsOneOf slots slot × Rose (old.failed_writes slot) (new.failed_writes slot)
IsSlotFault old new slots Memory = ⊥
IsSlotFault old new slots (Refused refusal) = ⊥
IsSlotFault old new slots (Conflict i j sequence differ) = ⊥
IsSlotFault old new slots (Split i j) = ⊥

module _ {D : Type 0} (tells : Type 0) (old new : BayState D) (found : GroupValue) (ready : ReadyValue) where
  -- What holds on the way of the next step, and at its end, whether it was written or not.
  pub record GoesNext (done : Bool) : Type 0 where
    pub goes : GoesBetween old new
    pub told : new.tells_left → old.tells_left
    pub same_reads : new.failed_reads ≡ old.failed_reads
    pub beside : tells → LeavesOthers old new (slots_of found.seats)
    pub leaves : tells → StopsLeave old new (IsLeftWriting old (next_in ready.steps))
    pub ends : tells → (image : Image) → IsLeft new.may_hold image → IsLeftWriting old (next_in ready.steps) image
    pub none_asked : next_in ready.steps ≡ [] → new.sectors_asked ≡ old.sectors_asked
    -- each history at whose end the group stands is kept
    pub keeps : tells → (group : List ℕ) (past : Past (groups group)) → StandsReady group past old found ready → KeepsStep group old new past ready done

  -- It was written, and the group stands on its disks with the others left, also at the end of each history.
  pub record IsNextWritten (now_found : GroupValue) (now_ready : ReadyValue) : Type 0 where
    pub found_is : now_found ≡ group_next found ready
    pub ready_is : now_ready ≡ left_behind ready
    pub stands : Stands tells new now_found now_ready
    pub same_seats : now_found.seats ≡ found.seats
    pub are_written : tells → AreWritten old.sizes old.held (next_in ready.steps) new.held
    pub others_left : tells → AddsNothing old new (slots_of found.seats)
    pub at_end : tells → (group : List ℕ) (past : Past (groups group)) → StandsReady group past old found ready → new.tells_left
        → StandsReady group (behind_next group past ready) new now_found now_ready
