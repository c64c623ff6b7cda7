-- What the steps of a group wrote to its disks.
use Rattle.std.specs.Prelude.{◌≡◌, ◌≢◌, ◌⊎◌, ℕ, List, [], ◌∷◌, slice_get, slice_index, Some}
use Rattle.ddf_bay.specs.Sectors.{Image}
use Rattle.ddf_header.specs.declared.reading.Header.{Header}
use Rattle.ddf_update.specs.declared.prepared.Prepared.{Prepared}
use Rattle.ddf_update.specs.Prepared.{IsPrepared}
use Rattle.ddf_update.specs.Update.{AreBoth, IsWritten as IsUpdateSector}
use Rattle.ddf_seats.specs.declared.seated.Seated.{Seated}
use Rattle.ddf_steps.specs.Steps.{Step}
use Rattle.ddf_seats.specs.Group.{floor_of}
use Rattle.ddf_history_steps.specs.Floors.{HasFloor}

-- A disk has its copy in both places, and all outside what it writes is as it was. It has the floor that it had, where that is the copy's.
pub record HasCopy (sizes : List ℕ) (before after : Image) (disk : Seated) : Type 0 where
  pub anchor : Header
  pub update : Prepared
  pub are_both : AreBoth (slice_index sizes disk.seat.slot) (after disk.seat.slot) anchor disk.copy
  pub is_prepared : IsPrepared disk.copy disk.last disk.mode update
  pub outside : (l : ℕ) → (after disk.seat.slot l ≡ before disk.seat.slot l) ⊎ IsUpdateSector (slice_index sizes disk.seat.slot) update l
  pub floors : (floor : ℕ) → HasFloor (slice_index sizes disk.seat.slot) (before disk.seat.slot) floor → floor_of disk.copy ≡ floor → HasFloor (slice_index sizes disk.seat.slot) (after disk.seat.slot) floor

-- no disk of a step lies on a slot
abbrev pub IsBeside : Step → (slot : ℕ) → Type 0
IsBeside step slot = (place : ℕ) (disk : Seated) → slice_get step.disks place ≡ Some disk → disk.seat.slot ≢ slot

-- Each disk of a step has its copy, and every other slot is as it was.
pub record IsWritten (sizes : List ℕ) (before : Image) (step : Step) (after : Image) : Type 0 where
  pub have_copies : (place : ℕ) (disk : Seated) → slice_get step.disks place ≡ Some disk → HasCopy sizes before after disk
  pub others : (slot l : ℕ) → IsBeside step slot → after slot l ≡ before slot l

-- The steps were written, one after another.
abbrev pub AreWritten : (sizes : List ℕ) (before : Image) → List Step → (after : Image) → Type 0
AreWritten sizes before [] after = (slot l : ℕ) → after slot l ≡ before slot l
AreWritten sizes before (step ∷ others) after = (middle : Image) × IsWritten sizes before step middle × AreWritten sizes middle others after
