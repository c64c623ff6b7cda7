-- What a stop leaves of the disks while steps of a group are written to them.
use Rattle.std.specs.Prelude.{◌≡◌, ◌⊎◌, ℕ, List, slice_get, Some}
use Rattle.ddf_bay.specs.Sectors.{Image, IsLeft}
use Rattle.ddf_bay.specs.State.{BayState, size_of}
use Rattle.ddf_view.specs.View.{View, view_of}
use Rattle.ddf_update.specs.declared.prepared.Prepared.{Prepared}
use Rattle.ddf_update.specs.Prepared.{IsPrepared}
use Rattle.ddf_update.specs.Update.{IsWritten as IsUpdateSector}
use Rattle.ddf_history.specs.Reading.{Shown}
use Rattle.ddf_history.specs.Reading.Shown.{One}
use Rattle.ddf_history.specs.Scenes.{scene_of}
use Rattle.ddf_history.specs.Steps.{IsPart}
use Rattle.ddf_seats.specs.declared.seated.Seated.{Seated}
use Rattle.ddf_seats.specs.Group.{floor_of}
use Rattle.ddf_steps.specs.Steps.{Step}
use Rattle.ddf_history_steps.specs.Floors.{HasFloor}

-- One of these steps writes a disk on a slot.
pub record IsWrittenOn (steps : List Step) (slot : ℕ) : Type 0 where
  pub number : ℕ
  pub step : Step
  pub is_step : slice_get steps number ≡ Some step
  pub place : ℕ
  pub disk : Seated
  pub is_disk : slice_get step.disks place ≡ Some disk
  pub on_slot : disk.seat.slot ≡ slot

-- the slot shows the copy that the disk gets, alone
abbrev pub ShowsStep : List Step → (slot : ℕ) → Shown View → Type 0
ShowsStep steps slot shown = (on : IsWrittenOn steps slot) × (shown ≡ One (view_of on.disk.copy))

-- a sector of the slot that the writing of that copy writes: one in its two places, or where its disk is taken over, the anchor
pub record IsStepsSector (size : ℕ) (steps : List Step) (slot l : ℕ) : Type 0 where
  pub on : IsWrittenOn steps slot
  pub update : Prepared
  pub is_prepared : IsPrepared on.disk.copy on.disk.last on.disk.mode update
  pub is_in : IsUpdateSector size update l

-- It is an image that a stop might have left before, but for copies that the steps write: each slot shows what it showed before, perhaps of two
-- copies that differ one alone, or such a copy alone, and no sector outside the places of these is another one. So each disk keeps its floor, where the copies
-- that it gets have that.
pub record IsLeftWriting {D : Type 0} (start : BayState D) (steps : List Step) (image : Image) : Type 0 where
  pub before : Image
  pub is_left : IsLeft start.may_hold before
  pub shows : (slot : ℕ) → (scene_of start.sizes image slot ≡ scene_of start.sizes before slot) ⊎ IsPart (scene_of start.sizes before slot) (scene_of start.sizes image slot)
      ⊎ ShowsStep steps slot (scene_of start.sizes image slot)
  pub outside : (slot l : ℕ) → (image slot l ≡ before slot l) ⊎ IsStepsSector (size_of start slot) steps slot l
  pub floors : (slot floor : ℕ) → HasFloor (size_of start slot) (before slot) floor → ((on : IsWrittenOn steps slot) → floor_of on.disk.copy ≡ floor)
      → HasFloor (size_of start slot) (image slot) floor
