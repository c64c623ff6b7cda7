-- A rebuild from the reading of its group on: the group is recovered, the position gets a spare where its disk is lost, and then its rows are filled.
use Rattle.std.specs.Prelude.{◌≡◌, ◌⊎◌, ℕ, ◌+◌, List, length, slice_get, None, Option, Some, Result, Ok, Err, is_ok}
use Rattle.ddf_bay.specs.State.{BayState}
use Rattle.ddf_array.specs.declared.part.Part.{Part}
use Rattle.ddf_cells.specs.Writing.{AsksFor}
use Rattle.ddf_update.specs.Prepared.{all_sectors}
use Rattle.ddf_recovery.specs.Committed.{recovery_updates}
use Rattle.ddf_steps.specs.Committed.{slots_of}
use Rattle.ddf_seats.specs.Group.{GroupValue}
use Rattle.ddf_recovery.specs.Ready.{ReadyValue, all_ready}
use Rattle.ddf_answer.specs.declared.failure.Failure.{Failure}
use Rattle.ddf_group_commands.specs.Costs.{ready_sectors}
use Rattle.ddf_write_commands.specs.Around.{rest}
use Rattle.ddf_rebuild_command.specs.declared.planning.Filling.{Filling}
use Rattle.ddf_rebuild_command.specs.Costs.{sectors_from}
use Rattle.ddf_rebuild_command.specs.Filled.{AreFilled, CanFill, GoesFilling, IsFillFault, rounds_in}
use Rattle.ddf_rebuild_command.specs.Opened.{GoesOpening, IsOpened, steps_before}
use Rattle.ddf_rebuild_command.specs.Rounds.{Round}
use Rattle.ddf_rebuild_command.specs.Standing.{IsSlotFault, recovery_in}

-- the rounds, behind the steps before the rows
abbrev pub rounds_of : Filling → ReadyValue → List Round
rounds_of filling ready = rounds_in filling.rows (rest filling.begins ready.steps)

-- what is ready behind these steps
abbrev pub ready_behind : Filling → ReadyValue → ReadyValue
ready_behind filling ready = record { recovery = None; steps = rest filling.begins ready.steps }

-- It asks for all that is ready at most, and the sectors of the position from the row on from which it is filled; where none is to be filled, for the recovery.
abbrev pub AsksInRun : {D : Type 0} → (old new : BayState D) → ReadyValue → Option Filling → Type 0
AsksInRun old new ready None = AsksFor old new (all_sectors (recovery_updates ready))
AsksInRun old new ready (Some filling) =
    (part : Part) → slice_get filling.view.parts filling.target.element ≡ Some part → AsksFor old new (ready_sectors (all_ready ready) + sectors_from part.shape filling.from)

-- Its rows can be filled behind them, and a step is left for each.
pub record CanFillBehind (sizes : List ℕ) (found : GroupValue) (filling : Filling) (ready : ReadyValue) : Type 0 where
  pub end : ℕ
  pub can_fill : CanFill sizes found.seats filling.view filling.target end filling.from filling.rows
  pub many : length (rest filling.begins ready.steps) ≡ length filling.rows

-- The rounds are done, and this is the group's sequence number behind them; or they aren't.
abbrev pub IsFillOutcome : {D : Type 0} → (tells : Type 0) → (old new : BayState D) → Filling → GroupValue → ReadyValue → Result ℕ Failure → Type 0
IsFillOutcome tells old new filling found ready (Ok sequence) =
    (now_found : GroupValue) × (now_ready : ReadyValue)
    × AreFilled tells old new filling.view filling.target filling.from (rounds_in filling.rows ready.steps) found ready now_found now_ready × (sequence ≡ now_found.config.sequence)
IsFillOutcome tells old new filling found ready (Err failure) =
    (end : ℕ) → CanFill old.sizes found.seats filling.view filling.target end filling.from filling.rows
    → IsFillFault tells old new filling.view filling.target filling.from (rounds_in filling.rows ready.steps) found ready end failure

-- The group was recovered, and this is its sequence number behind that; or it wasn't.
abbrev pub IsRecoveryOutcome : {D : Type 0} → (tells : Type 0) → (old new : BayState D) → GroupValue → ReadyValue → Result ℕ Failure → Type 0
IsRecoveryOutcome tells old new found ready (Ok sequence) =
    (now_found : GroupValue) × (now_ready : ReadyValue) × IsOpened tells old new found (recovery_in ready.recovery) now_found now_ready × (sequence ≡ now_found.config.sequence)
IsRecoveryOutcome tells old new found ready (Err failure) = IsSlotFault old new (slots_of found.seats) failure

module _ {B : Type 0} (disks : B → BayState B) (tells : Type 0) (old new : BayState B) (found : GroupValue) (ready : ReadyValue) where
  -- The first steps were written, over disks as the bay then told of them, and rows were filled.
  pub record IsFillRun (filling : Filling) (result : Result ℕ Failure) : Type 0 where
    pub middle : B
    pub opens : GoesOpening tells old (disks middle) found (steps_before filling.begins ready)
    pub opened_found : GroupValue
    pub opened : IsOpened tells old (disks middle) found (steps_before filling.begins ready) opened_found (ready_behind filling ready)
    pub fills : GoesFilling tells (disks middle) new filling.view filling.target filling.from (rounds_of filling ready) opened_found (ready_behind filling ready) (is_ok result)
    pub outcome : IsFillOutcome tells (disks middle) new filling opened_found (ready_behind filling ready) result

  -- or these weren't written
  pub record IsNotOpened (filling : Filling) (result : Result ℕ Failure) : Type 0 where
    pub failure : Failure
    pub is : result ≡ Err failure
    pub opens : GoesOpening tells old new found (steps_before filling.begins ready)
    pub failed : IsSlotFault old new (slots_of found.seats) failure

  -- Nothing was to be filled.
  pub record IsRecoveryRun (result : Result ℕ Failure) : Type 0 where
    pub opens : GoesOpening tells old new found (recovery_in ready.recovery)
    pub outcome : IsRecoveryOutcome tells old new found ready result

  abbrev pub IsRun : Option Filling → Result ℕ Failure → Type 0
  IsRun None result = IsRecoveryRun result
  IsRun (Some filling) result = IsFillRun filling result ⊎ IsNotOpened filling result
