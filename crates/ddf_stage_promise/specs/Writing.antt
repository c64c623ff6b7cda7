-- What a staged write asks of the array that it writes, and of the desks that it uses (profile).
use Rattle.std.specs.Prelude.{◌≡◌, ℕ, true, false, List, Some, slice_get}
use Rattle.ddf_bay.specs.Sectors.{Image}
use Rattle.ddf_array.specs.Volume.{Volume}
use Rattle.ddf_array.specs.Within.{is_within}
use Rattle.ddf_cells.specs.Alike.{IsCell as IsCellOf}
use Rattle.ddf_data_array.specs.Rows.{HasNoRows}
use Rattle.ddf_stage.specs.declared.desk.Desk.{Desk}
use Rattle.ddf_stage.specs.declared.desk.Staged.{Staged}
use Rattle.ddf_stage.specs.Laid.{names_one}
use Rattle.ddf_stage_data.specs.Moments.{AreCovered, IsRight, IsStage}
use Rattle.ddf_stage_promise.specs.Cells.{cells_of}
use Rattle.ddf_stage_promise.specs.Footing.{Footing}

-- The array is unmarked and within its level, and no rows of it count as rebuilt. What is staged is right, and gates count for it. Each slot of the array
-- has a desk, and the slot of each cell has one of those that are used.
pub record MayBeStaged (footing : Footing) (arrays : List (List ℕ)) (all desks : List Desk) (volume : Volume) (staged : Staged) (before : Image) : Type 0 where
  pub unmarked : volume.marked ≡ false
  pub within : is_within volume ≡ true
  pub no_rows : HasNoRows volume
  pub is_stage : IsStage staged
  pub names : names_one arrays staged.gate ≡ true
  pub right : IsRight volume staged before
  pub gates : (slot lba : ℕ) → IsCellOf volume slot lba → (gate : ℕ) × (footing.gate slot ≡ Some gate)
  pub among : (k : ℕ) (desk : Desk) → slice_get desks k ≡ Some desk → (j : ℕ) × (slice_get all j ≡ Some desk)
  pub covered : AreCovered desks (cells_of volume staged.gate)
