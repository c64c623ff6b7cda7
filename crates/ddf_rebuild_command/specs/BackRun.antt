-- A copyback from the reading of its group on: the group is recovered, the room is filled, and then the step is written by which the position is there.
use Rattle.std.specs.Prelude.{◌≡◌, ◌⊎◌, ℕ, ◌+◌, List, [], ◌∷◌, slice_get, None, Some, Result, Ok, Err, is_ok}
use Rattle.ddf_bytes.specs.Counts.{Rose}
use Rattle.ddf_bay.specs.Moments.{StopsLeave}
use Rattle.ddf_bay.specs.Sectors.{Image, IsLeft}
use Rattle.ddf_bay.specs.State.{BayState}
use Rattle.ddf_primary.specs.Cells.{depth_of}
use Rattle.ddf_array.specs.declared.part.Part.{Part}
use Rattle.ddf_array.specs.Volume.{Volume}
use Rattle.ddf_cells.specs.Touching.{GoesBetween}
use Rattle.ddf_cells.specs.Writing.{AsksFor, IsLeftBut}
use Rattle.ddf_rebuild.specs.Filling.{IsFilled, NoneLeftOf}
use Rattle.ddf_read.specs.Reading.{Failed}
use Rattle.ddf_repair.specs.declared.first.Target.{Target}
use Rattle.ddf_history.specs.Groups.{groups}
use Rattle.ddf_history.specs.Issued.{Past}
use Rattle.ddf_history.specs.Promise.{IsKept}
use Rattle.ddf_history.specs.Scenes.{scene_of}
use Rattle.ddf_history_steps.specs.Kept.{AreAllKept}
use Rattle.ddf_history_steps.specs.Steps.{StandsReady}
use Rattle.ddf_update.specs.Group.{IsOneOf}
use Rattle.ddf_recovery.specs.Ready.{ReadyValue, all_ready}
use Rattle.ddf_steps.specs.Committed.{slots_of}
use Rattle.ddf_seats.specs.Group.{GroupValue}
use Rattle.ddf_answer.specs.declared.failure.Failure.{Failure}
use Rattle.ddf_answer.specs.declared.failure.Failure.TheVariants.{Conflict, Disk, Memory, Refused, Split}
use Rattle.ddf_group_commands.specs.Costs.{ready_sectors}
use Rattle.ddf_group_commands.specs.Others.{LeavesOthers}
use Rattle.ddf_rebuild_command.specs.BackPlanned.{IsCopied}
use Rattle.ddf_rebuild_command.specs.Opened.{GoesOpening, IsOpened}
use Rattle.ddf_rebuild_command.specs.Standing.{AddsNothing, GoesNext, IsNextWritten, IsSlotFault, Stands, recovery_in}
use Rattle.ddf_rebuild_command.specs.declared.going_back.GoingBack.{GoingBack}

-- what is ready behind the recovery
abbrev pub ready_recovered : ReadyValue → ReadyValue
ready_recovered ready = record ready { recovery = None }

-- It asks for all that is ready at most, and the sectors of the room.
abbrev pub AsksGoingBack : {D : Type 0} → (old new : BayState D) → ReadyValue → GoingBack → Type 0
AsksGoingBack old new ready plan =
    (part : Part) → slice_get plan.view.parts plan.target.element ≡ Some part → AsksFor old new (ready_sectors (all_ready ready) + depth_of part.shape)

-- ---- the filling of the room

module _ {D : Type 0} (tells : Type 0) (old new : BayState D) (volume : Volume) (target : Target) (slot start : ℕ) (found : GroupValue) (ready : ReadyValue) where
  -- What holds on its way, and at its end, whether it is filled or not: only the room's sectors are others, and so each history at whose end the group stands is kept.
  pub record GoesCopying : Type 0 where
    pub goes : GoesBetween old new
    pub told : new.tells_left → old.tells_left
    pub beside : tells → LeavesOthers old new (slots_of found.seats)
    pub leaves : tells → StopsLeave old new (IsLeftBut (IsFilled volume target.element slot start) old.may_hold)
    pub ends : tells → (image : Image) → IsLeft new.may_hold image → IsLeftBut (IsFilled volume target.element slot start) old.may_hold image
    pub any_moment : tells → (group : List ℕ) (past : Past (groups group)) → StandsReady group past old found ready
        → StopsLeave old new (λ image. IsKept past (scene_of old.sizes image))
    pub all_kept : tells → new.tells_left → (group : List ℕ) (past : Past (groups group)) → StandsReady group past old found ready → AreAllKept group past new

  -- It is filled, and the group stands on its disks as before, also at the end of each history.
  pub record IsRoomFilled : Type 0 where
    pub stands : Stands tells new found ready
    pub is_copied : tells → IsCopied (Failed old new) new.tells_left volume target slot start old.held new.held
    pub others_left : tells → AddsNothing old new (slots_of found.seats)
    pub at_end : tells → (group : List ℕ) (past : Past (groups group)) → StandsReady group past old found ready → new.tells_left → StandsReady group past new found ready

  -- It isn't: a write or the sync of the room's slot failed, or a read of a seat's did, and no source is left there of a cell that the position needs.
  abbrev pub IsCopyFault : Failure → Type 0
  IsCopyFault (Disk failed) =
      IsOneOf (slots_of found.seats) failed
      × (((failed ≡ slot) × Rose (old.failed_writes failed) (new.failed_writes failed)) ⊎ NoneLeftOf (Failed old new) volume target.element target.position failed)
  IsCopyFault Memory = ⊥
  IsCopyFault (Refused refusal) = ⊥
  IsCopyFault (Conflict i j sequence differ) = ⊥
  IsCopyFault (Split i j) = ⊥

-- ---- all of it

module _ {B : Type 0} (disks : B → BayState B) (tells : Type 0) (old new : BayState B) (plan : GoingBack) (found : GroupValue) (ready : ReadyValue) where
  -- The group wasn't recovered.
  pub record IsNotRecovered (result : Result ℕ Failure) : Type 0 where
    pub failure : Failure
    pub is : result ≡ Err failure
    pub opens : GoesOpening tells old new found (recovery_in ready.recovery)
    pub failed : IsSlotFault old new (slots_of found.seats) failure

  -- It was, over disks as the bay then told of them.
  pub record IsRecoveredTo (middle : B) : Type 0 where
    pub opens : GoesOpening tells old (disks middle) found (recovery_in ready.recovery)
    pub opened_found : GroupValue
    pub opened : IsOpened tells old (disks middle) found (recovery_in ready.recovery) opened_found (ready_recovered ready)

  -- Then the room wasn't filled.
  pub record IsNotFilled (result : Result ℕ Failure) : Type 0 where
    pub middle : B
    pub recovered : IsRecoveredTo middle
    pub copying : GoesCopying tells (disks middle) new plan.view plan.target plan.slot plan.start recovered.opened_found (ready_recovered ready)
    pub failure : Failure
    pub is : result ≡ Err failure
    pub failed : IsCopyFault tells (disks middle) new plan.view plan.target plan.slot plan.start recovered.opened_found (ready_recovered ready) failure

  -- the last step was written behind it, and this is the group's sequence number; or it wasn't
  abbrev pub IsReturnOutcome : (middle : BayState B) → GroupValue → Result ℕ Failure → Type 0
  IsReturnOutcome middle opened (Ok sequence) =
      (now_found : GroupValue) × (now_ready : ReadyValue)
      × IsNextWritten tells middle new opened (ready_recovered ready) now_found now_ready × (sequence ≡ now_found.config.sequence)
  IsReturnOutcome middle opened (Err failure) = IsSlotFault middle new (slots_of opened.seats) failure

  -- Or it was.
  pub record IsFilledRun (result : Result ℕ Failure) : Type 0 where
    pub middle : B
    pub recovered : IsRecoveredTo middle
    pub behind : B
    pub copying : GoesCopying tells (disks middle) (disks behind) plan.view plan.target plan.slot plan.start recovered.opened_found (ready_recovered ready)
    pub filled : IsRoomFilled tells (disks middle) (disks behind) plan.view plan.target plan.slot plan.start recovered.opened_found (ready_recovered ready)
    pub returning : GoesNext tells (disks behind) new recovered.opened_found (ready_recovered ready) (is_ok result)
    pub outcome : IsReturnOutcome (disks behind) recovered.opened_found result

  abbrev pub IsBackRun : Result ℕ Failure → Type 0
  IsBackRun result = IsNotRecovered result ⊎ IsNotFilled result ⊎ IsFilledRun result
