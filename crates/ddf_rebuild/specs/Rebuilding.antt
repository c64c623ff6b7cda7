-- What a rebuild of rows leaves, at any moment and at its end, and why it ends (profile).
use Rattle.std.specs.Prelude.{◌≡◌, ◌⊎◌, ℕ, ◌+◌, ◌-◌, ◌*◌, true, false, min, Some, slice_get}
use Rattle.ddf_bytes.specs.Counts.{Rose}
use Rattle.ddf_bay.specs.Sectors.{Image}
use Rattle.ddf_bay.specs.State.{BayState}
use Rattle.ddf_bay.specs.ReadsOnly.{ReadsOnly}
use Rattle.ddf_primary.specs.Placement.{Placement}
use Rattle.ddf_primary.specs.Cells.{depth_of, height_of}
use Rattle.ddf_array.specs.declared.part.Part.{Part}
use Rattle.ddf_array.specs.declared.place.Place.{Place}
use Rattle.ddf_array.specs.Volume.{Volume}
use Rattle.ddf_array.specs.Within.{is_within}
use Rattle.ddf_read.specs.declared.fault.VolumeFault.{VolumeFault}
use Rattle.ddf_read.specs.declared.fault.VolumeFault.TheVariants.{Range, Degraded, Lost, Unsure, Disk}
use Rattle.ddf_read.specs.Reading.{Failed, NoneLeft}
use Rattle.ddf_cells.specs.CellSources.{cell_sources, needed_positions, wanted}
use Rattle.ddf_cells.specs.GivenCells.{IsWantedGiven}
use Rattle.ddf_rebuild.specs.Target.{IsInRows, IsTarget, IsTargetSlot}

-- The target's sectors at these rows hold what they should by an image: the values of their cells, and the sums of rows
-- where the position holds parity.
abbrev pub HasRebuilt : Volume → (element position from to : ℕ) → (before image : Image) → Type 0
HasRebuilt volume element position from to before image =
    (part : Part) (place : Place) (slot sector : ℕ) → IsTarget volume element position part place slot → IsInRows part.shape from to sector
    → image slot (place.start + sector) ≡ wanted volume before element part sector position

-- The target's sectors at these rows hold what was read for them, by an image: the bytes of a source of their cells, and sums of such bytes where the position
-- holds parity. Each source before that one has a slot of which a read failed.
abbrev pub HasGiven : (failed : ℕ → Type 0) → Volume → (element position from to : ℕ) → (before image : Image) → Type 0
HasGiven failed volume element position from to before image =
    (part : Part) (place : Place) (slot sector : ℕ) → IsTarget volume element position part place slot → IsInRows part.shape from to sector
    → IsWantedGiven failed volume before element part sector position (image slot (place.start + sector))

-- no source is left at a slot for what the target should hold at a sector of these rows
pub record NoneLeftInRows (failed : ℕ → Type 0) (volume : Volume) (element position from to slot : ℕ) : Type 0 where
  pub part : Part
  pub is_part : slice_get volume.parts element ≡ Some part
  pub sector : ℕ
  pub in_rows : IsInRows part.shape from to sector
  pub number : ℕ
  pub other : ℕ
  pub is_needed : slice_get (needed_positions part sector position) number ≡ Some other
  pub none_left : NoneLeft failed (cell_sources volume element part sector other) slot

-- The cause of an answer other than Ok. Where the array isn't within its level no call is made, and nothing changes. A slot of which
-- a write or sync failed is the target's.
abbrev pub IsRebuildFault : {D : Type 0} → (old new : BayState D) → Volume → (element position from to : ℕ) → VolumeFault → Type 0
IsRebuildFault old new volume element position from to (Range most) = ⊥
IsRebuildFault old new volume element position from to Degraded = ⊥
IsRebuildFault old new volume element position from to Lost = (is_within volume ≡ false) × (ReadsOnly old new × (new.calls ≡ old.calls))
IsRebuildFault old new volume element position from to Unsure = ⊥
IsRebuildFault old new volume element position from to (Disk slot) =
    (is_within volume ≡ true)
    × ((IsTargetSlot volume element position slot × Rose (old.failed_writes slot) (new.failed_writes slot)) ⊎ NoneLeftInRows (Failed old new) volume element position from to slot)

-- how many sectors these rows have
abbrev pub sectors_of : Placement → (from to : ℕ) → ℕ
sectors_of shape from to = min (to * height_of shape) (depth_of shape) - from * height_of shape
