-- What stops leave of a block that is being staged, or written from its stage, and the image before (profile).
use Rattle.std.specs.Prelude.{◌≡◌, ◌⊎◌, ℕ, true, Some, List, slice_get}
use Rattle.ddf_bay.specs.Moments.{IsSettled}
use Rattle.ddf_bay.specs.Sectors.{Image, Outcomes}
use Rattle.ddf_stage.specs.declared.desk.Desk.{Desk}
use Rattle.ddf_stage.specs.declared.desk.StageCell.{StageCell}
use Rattle.ddf_stage.specs.declared.desk.Staged.{Staged}
use Rattle.ddf_stage.specs.Laid.{on_desk}
use Rattle.ddf_stage.specs.Desks.{IsPayload}
use Rattle.ddf_stage.specs.Staging.{Adds, AreSettled, Either, IsThere, OpenGates}
use Rattle.ddf_stage.specs.Desks.{HasDesk}
use Rattle.ddf_stage_data.specs.Moments.{IsMoment, is_shut}

-- no gate of these desks may stand open and name one of these arrays
abbrev pub AreShut : (arrays : List (List ℕ)) → List Desk → Outcomes → Type 0
AreShut arrays desks may = (k : ℕ) (desk : Desk) (bytes : List ℕ) → slice_get desks k ≡ Some desk → may desk.slot desk.lba bytes → is_shut arrays bytes ≡ true

-- Nothing is pending on the slots of these desks, and the gate of each counts for nothing, or stands open before what is staged.
pub record MayStageAgain (arrays : List (List ℕ)) (desks : List Desk) (staged : Staged) (may : Outcomes) (held : Image) : Type 0 where
  pub settled : (k : ℕ) (desk : Desk) → slice_get desks k ≡ Some desk → IsSettled may held desk.slot
  pub stands : (k : ℕ) (desk : Desk) → slice_get desks k ≡ Some desk → (on_desk arrays held desk ≡ Some staged) ⊎ (is_shut arrays (held desk.slot desk.lba) ≡ true)

-- Before any gate is opened: at most what is staged is another, behind gates that stand as they did.
pub record IsBeforeGates (arrays : List (List ℕ)) (desks : List Desk) (staged : Staged) (before image : Image) : Type 0 where
  pub others : (s l : ℕ) → (image s l ≡ before s l) ⊎ IsPayload desks staged s l (image s l)
  pub gates : (k : ℕ) (desk : Desk) → slice_get desks k ≡ Some desk → is_shut arrays (image desk.slot desk.lba) ≡ true

-- an image comes from one that might be left before, by then
pub record ComesFrom (arrays : List (List ℕ)) (desks : List Desk) (staged : Staged) (cells : List StageCell) (may : Outcomes) (image : Image) : Type 0 where
  pub before : Image
  pub is_left : (s l : ℕ) → may s l (before s l)
  pub moment : IsBeforeGates arrays desks staged before image ⊎ IsMoment arrays desks staged cells before image

-- An image comes from one that might be left before, as a moment of a staged write from there.
pub record ComesAgain (arrays : List (List ℕ)) (desks : List Desk) (staged : Staged) (cells : List StageCell) (may : Outcomes) (image : Image) : Type 0 where
  pub before : Image
  pub is_left : (s l : ℕ) → may s l (before s l)
  pub moment : IsMoment arrays desks staged cells before image

-- what is left once a block is staged
pub record IsStagedBehind (desks : List Desk) (staged : Staged) (old may : Outcomes) (held : Image) : Type 0 where
  pub payload : IsThere (IsPayload desks staged) held
  pub gates : IsThere (OpenGates desks staged) held
  pub settled : AreSettled (HasDesk desks) may held
  pub adds : Adds (Either (IsPayload desks staged) (OpenGates desks staged)) old may
