-- How far a rebuild has come, and what a stop leaves then.
use Rattle.std.specs.Prelude.{◌≡◌, ℕ, List, [], ◌∷◌, Some, slice_get, take}
use Rattle.ddf_bay.specs.Sectors.{Image}
use Rattle.ddf_cells.specs.Writing.{IsLeftBut}
use Rattle.ddf_rebuild.specs.Target.{IsTargetCell}
use Rattle.ddf_read.specs.Reading.{Failed}
use Rattle.ddf_steps.specs.Committed.{slots_of}
use Rattle.ddf_seats.specs.Group.{GroupValue}
use Rattle.ddf_answer.specs.Call.{Work}
use Rattle.ddf_group_commands.specs.Writing.{IsLeftWriting}
use Rattle.ddf_group_commands.specs.Written.{AreWritten}
use Rattle.ddf_write_commands.specs.Holding.{holding}
use Rattle.ddf_rebuild_command.specs.Planned.{IsPlanned, first_row}
use Rattle.ddf_rebuild_command.specs.Rounds.{AreRounds, IsFilled, Round, row_before}

-- The first steps are under way; the rows of a round are; or its step is, by its number.
pub data Stage : Type 0 where
  Opening : Stage
  Filling : (number : ℕ) → Stage
  Noting : (number : ℕ) → Stage

module _ {D : Type 0} (work : Work D) (found : GroupValue) {timestamp : ℕ} {word : List ℕ} (plan : IsPlanned found timestamp word) where
  -- the first rounds are done, so many, and this is what the disks hold behind them
  pub record IsBehind (number : ℕ) (image : Image) : Type 0 where
    pub opened : Image
    pub first_written : AreWritten work.old.sizes work.old.held plan.first opened
    pub rounds_done : AreRounds (Failed work.old work.new) work.new.tells_left work.old.sizes plan.volume plan.target (first_row plan) opened (take number plan.rounds) image

  -- Of the disks behind these rounds only the position's sectors at the rows of the next one are others.
  pub record IsLeftFilling (number : ℕ) (image : Image) : Type 0 where
    pub before : Image
    pub is_behind : IsBehind number before
    pub round : Round
    pub is_round : slice_get plan.rounds number ≡ Some round
    pub is_left : IsLeftBut (IsTargetCell plan.volume plan.target.element plan.target.position (row_before (first_row plan) plan.rounds number) round.row)
        (holding work.old (slots_of found.seats) before).may_hold image

  -- These rows are filled for sure, and the round's step is under way.
  pub record IsLeftNoting (number : ℕ) (image : Image) : Type 0 where
    pub before : Image
    pub is_behind : IsBehind number before
    pub round : Round
    pub is_round : slice_get plan.rounds number ≡ Some round
    pub filled : Image
    pub is_filled : IsFilled (Failed work.old work.new) work.new.tells_left plan.volume plan.target (row_before (first_row plan) plan.rounds number) round.row before filled
    pub is_left : IsLeftWriting (holding work.old (slots_of found.seats) filled) (round.step ∷ []) image

  abbrev pub IsLeftAt : Stage → Image → Type 0
  IsLeftAt Opening image = IsLeftWriting work.old plan.first image
  IsLeftAt (Filling number) image = IsLeftFilling number image
  IsLeftAt (Noting number) image = IsLeftNoting number image

-- A stop left this on the way of a rebuild.
pub record IsLeftRebuilding {D : Type 0} (work : Work D) (found : GroupValue) (timestamp : ℕ) (word : List ℕ) (image : Image) : Type 0 where
  pub plan : IsPlanned found timestamp word
  pub stage : Stage
  pub is_left : IsLeftAt work found plan stage image
