-- What filling an extent aside with what a position should hold leaves, at any moment and at its end, and why it ends (profile).
use Rattle.std.specs.Prelude.{◌≡◌, ◌⊎◌, ℕ, ◌+◌, ◌<◌, true, false, Some, slice_get}
use Rattle.ddf_bytes.specs.Counts.{Rose}
use Rattle.ddf_bay.specs.Sectors.{Image}
use Rattle.ddf_bay.specs.State.{BayState}
use Rattle.ddf_bay.specs.ReadsOnly.{ReadsOnly}
use Rattle.ddf_primary.specs.Cells.{depth_of}
use Rattle.ddf_array.specs.declared.part.Part.{Part}
use Rattle.ddf_array.specs.Volume.{Volume}
use Rattle.ddf_array.specs.Within.{is_within}
use Rattle.ddf_read.specs.declared.fault.VolumeFault.{VolumeFault}
use Rattle.ddf_read.specs.declared.fault.VolumeFault.TheVariants.{Range, Degraded, Lost, Unsure, Disk}
use Rattle.ddf_read.specs.Reading.{Failed, NoneLeft}
use Rattle.ddf_cells.specs.CellSources.{cell_sources, needed_positions, wanted}
use Rattle.ddf_cells.specs.GivenCells.{IsWantedGiven}
use Rattle.ddf_cells.specs.Writing.{IsAmongSectors}

-- A sector of the bay is one that is filled: of an extent from a start on, as far as the positions of the element hold blocks or parity.
pub record IsFilled (volume : Volume) (element slot start s l : ℕ) : Type 0 where
  pub part : Part
  pub is_part : slice_get volume.parts element ≡ Some part
  pub among : IsAmongSectors slot start (depth_of part.shape) s l

-- These sectors hold what the position should hold by an image: the values of its cells, and the sums of rows where it holds parity.
abbrev pub HoldsWanted : Volume → (element position slot start : ℕ) → (before image : Image) → Type 0
HoldsWanted volume element position slot start before image =
    (part : Part) (sector : ℕ) → slice_get volume.parts element ≡ Some part → sector < depth_of part.shape
    → image slot (start + sector) ≡ wanted volume before element part sector position

-- They hold what was read for it, by an image: the bytes of a source of its cells, and sums of such bytes where it holds parity. Each source before
-- that one has a slot of which a read failed.
abbrev pub HoldsGiven : (failed : ℕ → Type 0) → Volume → (element position slot start : ℕ) → (before image : Image) → Type 0
HoldsGiven failed volume element position slot start before image =
    (part : Part) (sector : ℕ) → slice_get volume.parts element ≡ Some part → sector < depth_of part.shape
    → IsWantedGiven failed volume before element part sector position (image slot (start + sector))

-- no source is left at a slot for what the position should hold at one of its sectors
pub record NoneLeftOf (failed : ℕ → Type 0) (volume : Volume) (element position slot : ℕ) : Type 0 where
  pub part : Part
  pub is_part : slice_get volume.parts element ≡ Some part
  pub sector : ℕ
  pub below : sector < depth_of part.shape
  pub number : ℕ
  pub other : ℕ
  pub is_needed : slice_get (needed_positions part sector position) number ≡ Some other
  pub none_left : NoneLeft failed (cell_sources volume element part sector other) slot

-- The cause of an answer other than Ok. Where the array isn't within its level no call is made, and nothing changes. A slot of which
-- a write or sync failed is that of the extent.
abbrev pub IsFillFault : {D : Type 0} → (old new : BayState D) → Volume → (element position slot : ℕ) → VolumeFault → Type 0
IsFillFault old new volume element position slot (Range most) = ⊥
IsFillFault old new volume element position slot Degraded = ⊥
IsFillFault old new volume element position slot Lost = (is_within volume ≡ false) × (ReadsOnly old new × (new.calls ≡ old.calls))
IsFillFault old new volume element position slot Unsure = ⊥
IsFillFault old new volume element position slot (Disk failed) =
    (is_within volume ≡ true)
    × (((failed ≡ slot) × Rose (old.failed_writes failed) (new.failed_writes failed)) ⊎ NoneLeftOf (Failed old new) volume element position failed)
