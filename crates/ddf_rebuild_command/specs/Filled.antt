-- Rounds of a rebuild, from the row on to which it has come: what comes of them, and what a stop leaves on their way.
use Rattle.std.specs.Prelude.{◌≡◌, ◌⊎◌, ℕ, ◌≤◌, Bool, true, false, List, [], ◌∷◌, length, take, slice_get, Some, Ok}
use Rattle.ddf_bytes.specs.Counts.{Rose}
use Rattle.ddf_bay.specs.Moments.{Keeps, StopsLeave}
use Rattle.ddf_bay.specs.Sectors.{Image, IsLeft}
use Rattle.ddf_bay.specs.State.{BayState}
use Rattle.ddf_array.specs.Apart.{IsApart}
use Rattle.ddf_array.specs.Viewing.{view_of}
use Rattle.ddf_array.specs.Volume.{Volume}
use Rattle.ddf_array.specs.Within.{is_within}
use Rattle.ddf_array.specs.declared.part.Part.{Part}
use Rattle.ddf_cells.specs.Touching.{GoesBetween}
use Rattle.ddf_cells.specs.Writing.{IsLeftBut}
use Rattle.ddf_config.specs.Configuration.{Configuration}
use Rattle.ddf_config.specs.Seats.{SeatsFit}
use Rattle.ddf_config.specs.declared.seat.Seat.{Seat}
use Rattle.ddf_rebuild.specs.Rebuilding.{NoneLeftInRows}
use Rattle.ddf_rebuild.specs.Target.{IsOut, IsTargetCell, row_count}
use Rattle.ddf_repair.specs.declared.first.Target.{Target}
use Rattle.ddf_update.specs.Group.{IsOneOf}
use Rattle.ddf_read.specs.Reading.{Failed}
use Rattle.ddf_history.specs.Groups.{groups}
use Rattle.ddf_history.specs.Issued.{Past, acknowledge, issue}
use Rattle.ddf_history.specs.Promise.{IsKept}
use Rattle.ddf_history.specs.Scenes.{scene_of}
use Rattle.ddf_steps.specs.Committed.{slots_of}
use Rattle.ddf_seats.specs.Group.{GroupValue}
use Rattle.ddf_steps.specs.Ready.{ReadyStep}
use Rattle.ddf_recovery.specs.Ready.{ReadyValue}
use Rattle.ddf_history_steps.specs.Kept.{AreAllKept}
use Rattle.ddf_history_steps.specs.Steps.{StandsReady}
use Rattle.ddf_answer.specs.declared.failure.Failure.{Failure}
use Rattle.ddf_answer.specs.declared.failure.Failure.TheVariants.{Conflict, Disk, Memory, Refused, Split}
use Rattle.ddf_group_commands.specs.Change.{last_sequence}
use Rattle.ddf_group_commands.specs.Others.{LeavesOthers}
use Rattle.ddf_group_commands.specs.Writing.{IsLeftWriting}
use Rattle.ddf_write_commands.specs.Holding.{holding}
use Rattle.ddf_rebuild_command.specs.Rounds.{AreRounds, IsFilled, Round, row_before, steps_of}
use Rattle.ddf_rebuild_command.specs.Stages.{Stage}
use Rattle.ddf_rebuild_command.specs.Stages.Stage.{Filling, Noting, Opening}
use Rattle.ddf_rebuild_command.specs.Standing.{AddsNothing, Stands}

-- ---- the rounds

-- rows with the steps that are written behind them
abbrev pub rounds_in : List ℕ → List ReadyStep → List Round
rounds_in [] steps = []
rounds_in (row ∷ rows) [] = []
rounds_in (row ∷ rows) (one ∷ others) = record { row = row; step = one.step } ∷ rounds_in rows others

-- rows rise from this one on, and none passes the end
abbrev pub RiseTo : (end from : ℕ) → List ℕ → Type 0
RiseTo end from [] = from ≤ end
RiseTo end from (row ∷ rows) = (from ≤ row) × RiseTo end row rows

-- A position of an array can be filled from a row on up to these: the array is within its level and unmarked, its view is over these seats, and its
-- extents lie apart.
pub record CanFill (sizes : List ℕ) (seats : List Seat) (volume : Volume) (target : Target) (end from : ℕ) (rows : List ℕ) : Type 0 where
  pub config : Configuration
  pub guid : List ℕ
  pub is_view : view_of config guid seats ≡ Ok volume
  pub fit : SeatsFit sizes seats
  pub apart : IsApart volume
  pub unmarked : volume.marked ≡ false
  pub is_within : is_within volume ≡ true
  pub is_out : IsOut volume target.element target.position
  pub rise : RiseTo end from rows
  pub ends : (part : Part) → slice_get volume.parts target.element ≡ Some part → end ≤ row_count part.shape

-- ---- what a stop leaves on their way

module _ {D : Type 0} (failed : ℕ → Type 0) (told : Type 0) (start : BayState D) (slots : List ℕ) (volume : Volume) (target : Target) (from : ℕ) (rounds : List Round) where
  -- The first rounds are done, so many, and the rows of the next one are filled.
  pub record IsLeftFillingIn (number : ℕ) (image : Image) : Type 0 where
    pub before : Image
    pub rounds_done : AreRounds failed told start.sizes volume target from start.held (take number rounds) before
    pub round : Round
    pub is_round : slice_get rounds number ≡ Some round
    pub is_left : IsLeftBut (IsTargetCell volume target.element target.position (row_before from rounds number) round.row) (holding start slots before).may_hold image

  -- So are these rows, and the step is written that tells of them.
  pub record IsLeftNotingIn (number : ℕ) (image : Image) : Type 0 where
    pub before : Image
    pub rounds_done : AreRounds failed told start.sizes volume target from start.held (take number rounds) before
    pub round : Round
    pub is_round : slice_get rounds number ≡ Some round
    pub filled : Image
    pub is_filled : IsFilled failed told volume target (row_before from rounds number) round.row before filled
    pub is_left : IsLeftWriting (holding start slots filled) (round.step ∷ []) image

  abbrev pub IsLeftIn : Stage → Image → Type 0
  IsLeftIn Opening image = ⊥
  IsLeftIn (Filling number) image = IsLeftFillingIn number image
  IsLeftIn (Noting number) image = IsLeftNotingIn number image

-- ---- what they mean to a history

module _ (group : List ℕ) where
  -- a change is issued and acknowledged
  abbrev pub made : Past (groups group) → Configuration → Past (groups group)
  made past config = acknowledge (issue past config) (length past.changes.issued)

  -- so is that of each round
  abbrev pub behind_rounds : Past (groups group) → List Round → Past (groups group)
  behind_rounds past [] = past
  behind_rounds past (round ∷ rounds) = behind_rounds (made past round.step.config) rounds

  -- how far the history has come by then
  abbrev pub HasComeIn : Past (groups group) → List Round → Stage → Past (groups group) → Type 0
  HasComeIn past rounds Opening now = ⊥
  HasComeIn past rounds (Filling number) now = now ≡ behind_rounds past (take number rounds)
  HasComeIn past rounds (Noting number) now =
      (round : Round) × (slice_get rounds number ≡ Some round)
      × ((now ≡ issue (behind_rounds past (take number rounds)) round.step.config) ⊎ (now ≡ made (behind_rounds past (take number rounds)) round.step.config))

-- ---- what comes of them

module _ {D : Type 0} (tells : Type 0) (old new : BayState D) (volume : Volume) (target : Target) (from : ℕ) (rounds : List Round) (found : GroupValue) (ready : ReadyValue) where
  abbrev pub IsLeftOf : Stage → Image → Type 0
  IsLeftOf stage image = IsLeftIn (Failed old new) new.tells_left old (slots_of found.seats) volume target from rounds stage image

  -- A stop left this at a stage, at which this holds of it.
  pub record IsAmidst (Shows : Stage → Image → Type 0) (image : Image) : Type 0 where
    pub stage : Stage
    pub is_left : IsLeftOf stage image
    pub shows : Shows stage image

  -- A history at whose end the group stood has come as far by then, and the image shows what it should.
  abbrev pub ShowsIn : (group : List ℕ) → Past (groups group) → Stage → Image → Type 0
  ShowsIn group past stage image = (now : Past (groups group)) × HasComeIn group past rounds stage now × IsKept now (scene_of old.sizes image)

  -- So does, at the end, whatever a stop may leave then. Where they are done all their changes are acknowledged.
  pub record EndsAmidst (group : List ℕ) (past : Past (groups group)) (done : Bool) : Type 0 where
    pub stage : Stage
    pub now : Past (groups group)
    pub has_come : HasComeIn group past rounds stage now
    pub is_over : done ≡ true → now ≡ behind_rounds group past rounds
    pub is_left : (image : Image) → IsLeft new.may_hold image → IsLeftOf stage image
    pub all_kept : AreAllKept group now new

  -- What holds on their way, and at their end, whether they are done or not.
  pub record GoesFilling (done : Bool) : Type 0 where
    pub goes : GoesBetween old new
    pub told : new.tells_left → old.tells_left
    pub beside : tells → LeavesOthers old new (slots_of found.seats)
    pub leaves : tells → StopsLeave old new (IsAmidst (λ stage image. Unit {0}))
    pub any_moment : tells → (group : List ℕ) (past : Past (groups group)) → StandsReady group past old found ready → StopsLeave old new (IsAmidst (ShowsIn group past))
    pub ends : tells → new.tells_left → (group : List ℕ) (past : Past (groups group)) → StandsReady group past old found ready
        → EndsAmidst group past done ⊎ ((rounds ≡ []) × Keeps old.may_hold new.may_hold)

  -- They are done, and the group stands on its disks, also at the end of each history.
  pub record AreFilled (now_found : GroupValue) (now_ready : ReadyValue) : Type 0 where
    pub stands : Stands tells new now_found now_ready
    pub same_seats : now_found.seats ≡ found.seats
    pub is_last : now_found.config.sequence ≡ last_sequence found.config.sequence (steps_of rounds)
    pub are_done : tells → AreRounds (Failed old new) new.tells_left old.sizes volume target from old.held rounds new.held
    pub others_left : tells → AddsNothing old new (slots_of found.seats)
    pub at_end : tells → (group : List ℕ) (past : Past (groups group)) → StandsReady group past old found ready → new.tells_left
        → StandsReady group (behind_rounds group past rounds) new now_found now_ready

  -- They aren't: a write or a sync of a seat's slot failed, or a read did, and no source is left there of a cell that a row up to the end needs.
  abbrev pub IsFillFault : (end : ℕ) → Failure → Type 0
  IsFillFault end (Disk slot) =
      IsOneOf (slots_of found.seats) slot
      × (Rose (old.failed_writes slot) (new.failed_writes slot) ⊎ NoneLeftInRows (Failed old new) volume target.element target.position from end slot)
  IsFillFault end Memory = ⊥
  IsFillFault end (Refused refusal) = ⊥
  IsFillFault end (Conflict i j sequence differ) = ⊥
  IsFillFault end (Split i j) = ⊥
