-- The floors of slots, as histories of data tell of them.
use Rattle.std.specs.Prelude.{◌≡◌, ℕ, false, true, List, slice_index}
use Rattle.ddf_bay.specs.Sectors.{Image}
use Rattle.ddf_bay.specs.State.{BayState}
use Rattle.ddf_config.specs.Configuration.{Configuration}
use Rattle.ddf_history.specs.Groups.{groups, has_current}
use Rattle.ddf_history.specs.Issued.{IsSince, Past}
use Rattle.ddf_history_steps.specs.Floors.{HasFloor}

module _ (group : List ℕ) where
  -- By an image each slot has its floor that isn't lost, and whose disk is a current member since the last acknowledged change.
  abbrev pub HaveFloorsIn : Past (groups group) → (sizes : List ℕ) → Image → (floor : ℕ → ℕ) → Type 0
  HaveFloorsIn past sizes image floor =
      (slot number : ℕ) (config : Configuration) → IsSince past.changes number config → past.lost slot ≡ false → has_current config (past.disk slot) ≡ true
      → HasFloor (slice_index sizes slot) (image slot) (floor slot)

  -- so it has by what the disks hold
  abbrev pub HaveFloors : {D : Type 0} → Past (groups group) → BayState D → (floor : ℕ → ℕ) → Type 0
  HaveFloors past disks floor = HaveFloorsIn past disks.sizes disks.held floor

  -- so it has by whatever a stop may leave of the slot
  abbrev pub AllHaveFloors : {D : Type 0} → Past (groups group) → BayState D → (floor : ℕ → ℕ) → Type 0
  AllHaveFloors past disks floor =
      (slot number : ℕ) (config : Configuration) → IsSince past.changes number config → past.lost slot ≡ false → has_current config (past.disk slot) ≡ true
      → (sector : ℕ → List ℕ) → ((l : ℕ) → disks.may_hold slot l (sector l)) → HasFloor (slice_index disks.sizes slot) sector (floor slot)
