-- What closing gates asks of what stands open, and of the desks that it uses (profile).
use Rattle.std.specs.Prelude.{◌≡◌, ◌⊎◌, ℕ, ◌+◌, ◌<◌, ◌≤◌, List, Some, slice_get}
use Rattle.ddf_bay.specs.Sectors.{Image, Outcomes}
use Rattle.ddf_stage.specs.declared.desk.Desk.{Desk}
use Rattle.ddf_stage.specs.declared.desk.StageCell.{StageCell}
use Rattle.ddf_stage.specs.declared.desk.Staged.{Staged}
use Rattle.ddf_stage.specs.Desks.{HasDesk}
use Rattle.ddf_stage.specs.Laid.{on_desk}
use Rattle.ddf_stage.specs.Staging.{Adds, AreSettled, ClosedGates, Either, HasCell, IsCell, IsThere}
use Rattle.ddf_stage_data.specs.Moments.{AreCovered}
use Rattle.ddf_stage_promise.specs.Footing.{Footing}

-- each desk lies at or past its slot's floor
abbrev pub LiePastFloors : Footing → Type 0
LiePastFloors footing = (slot lba : ℕ) → footing.gate slot ≡ Some lba → footing.floor slot ≤ lba

-- below the floor of each slot, and on each desk, the sectors are as they were: records lie elsewhere
pub record SameButRecords (footing : Footing) (before image : Image) : Type 0 where
  pub below : (slot lba : ℕ) → lba < footing.floor slot → image slot lba ≡ before slot lba
  pub on_desks : (slot lba i : ℕ) → footing.gate slot ≡ Some lba → i < 18 → image slot (lba + i) ≡ before slot (lba + i)

-- The desks of a closing: some of these, each of them that has a gate which stands open, and one on the slot of each cell.
pub record AreToClose (arrays : List (List ℕ)) (all desks : List Desk) (cells : List StageCell) (image : Image) : Type 0 where
  pub among : (k : ℕ) (desk : Desk) → slice_get desks k ≡ Some desk → (j : ℕ) × (slice_get all j ≡ Some desk)
  pub opens : (j : ℕ) (desk : Desk) (staged : Staged) → slice_get all j ≡ Some desk → on_desk arrays image desk ≡ Some staged → (k : ℕ) × (slice_get desks k ≡ Some desk)
  pub covered : AreCovered desks cells

-- what is left once a block is written from its stage, and the gates are closed
pub record IsWrittenBehind (desks : List Desk) (cells : List StageCell) (staged : Staged) (old may : Outcomes) (held : Image) : Type 0 where
  pub are_there : IsThere (IsCell cells staged) held
  pub gates : IsThere (ClosedGates desks staged) held
  pub settled : AreSettled (λ slot. HasDesk desks slot ⊎ HasCell cells slot) may held
  pub adds : Adds (Either (IsCell cells staged) (ClosedGates desks staged)) old may
