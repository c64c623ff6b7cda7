-- What a resync leaves, at any moment and at its end, and why it ends (profile).
use Rattle.std.specs.Prelude.{◌≡◌, ◌⊎◌, ℕ, ◌+◌, ◌<◌, ◌≤◌, true, not, List, map, Option, Some, None, slice_get, if◌then◌else◌}
use Rattle.ddf_bytes.specs.Counts.{Rose}
use Rattle.ddf_bay.specs.Sectors.{Image, Outcomes}
use Rattle.ddf_bay.specs.State.{BayState}
use Rattle.ddf_bay.specs.ReadsOnly.{ReadsOnly}
use Rattle.ddf_primary.specs.Cells.{depth_of}
use Rattle.ddf_array.specs.declared.part.Part.{Part}
use Rattle.ddf_array.specs.declared.site.Site.{Site}
use Rattle.ddf_array.specs.Places.{site_on}
use Rattle.ddf_array.specs.Volume.{Volume, capacity}
use Rattle.ddf_array.specs.Sources.{copies, copy, sources}
use Rattle.ddf_array.specs.Sound.{AreSectors}
use Rattle.ddf_array.specs.Values.{bytes_at}
use Rattle.ddf_array.specs.Redundant.{IsRedundant}
use Rattle.ddf_array.specs.Levels.{keeps_parity}
use Rattle.ddf_array.specs.Within.{is_within}
use Rattle.ddf_read.specs.declared.fault.VolumeFault.{VolumeFault}
use Rattle.ddf_read.specs.declared.fault.VolumeFault.TheVariants.{Range, Degraded, Lost, Unsure, Disk}
use Rattle.ddf_read.specs.Reading.{Failed, IsGivenBy, NoneLeft}
use Rattle.ddf_cells.specs.Degraded.{is_degraded}
use Rattle.ddf_cells.specs.Parity.{IsParityCell}
use Rattle.ddf_cells.specs.RowSums.{NoneLeftForSum}
use Rattle.ddf_cells.specs.Touching.{IsAmongGiven}
use Rattle.ddf_resync.specs.Several.{has_other, IsCopied}

-- these bytes are those that an available cell of a block holds in an image
pub record IsHeld (volume : Volume) (image : Image) (block : ℕ) (bytes : List ℕ) : Type 0 where
  pub number : ℕ
  pub other : Site
  pub is_copy : slice_get (copies volume block) number ≡ Some other
  pub bytes_are : bytes ≡ bytes_at image other

-- A sector of the bay is an available cell of a block that has another one, and gets bytes that one of the block's held before,
-- where the bay tells what it holds.
pub record IsTaken (volume : Volume) (tells : Type 0) (before : Image) (slot lba : ℕ) (bytes : List ℕ) : Type 0 where
  pub block : ℕ
  pub i : ℕ
  pub is_cell : slice_get (copies volume block) i ≡ Some (site_on slot lba)
  pub several : has_other volume block ≡ true
  pub held : tells → IsHeld volume before block bytes

-- what a resync may give a sector: such bytes, or any at a parity cell
abbrev pub MayResync : Volume → (tells : Type 0) → (before : Image) → (slot lba : ℕ) → List ℕ → Type 0
MayResync volume tells before slot lba bytes = IsTaken volume tells before slot lba bytes ⊎ IsParityCell volume slot lba

-- an image while an array is resynced: each sector is as it might be left before, or as the resync may give it
abbrev pub IsAmongResynced : Volume → (tells : Type 0) → (before : Image) → (may : Outcomes) → Image → Type 0
IsAmongResynced volume tells before = IsAmongGiven (MayResync volume tells before)

-- nothing else can be left afterwards
abbrev pub AddsResynced : Volume → (tells : Type 0) → (before : Image) → (old new : Outcomes) → Type 0
AddsResynced volume tells before old new = (s l : ℕ) (bytes : List ℕ) → new s l bytes → old s l bytes ⊎ MayResync volume tells before s l bytes

-- what an image becomes by it
abbrev pub IsLeftByResync : Volume → (tells : Type 0) → (before image : Image) → Type 0
IsLeftByResync volume tells before image = (s l : ℕ) → (image s l ≡ before s l) ⊎ MayResync volume tells before s l (image s l)

-- The array was resynced: it is redundant, and each available cell of a block has what the first of the block's available cells
-- held before, or the first of them behind others that are on slots of which a read failed.
pub record HasResynced (failed : ℕ → Type 0) (volume : Volume) (before image : Image) : Type 0 where
  pub redundant : AreSectors image → IsRedundant volume image
  pub given : (block i : ℕ) (one : Site) → slice_get (copies volume block) i ≡ Some one → IsGivenBy failed before (map copy (copies volume block)) (bytes_at image one)

-- a resync sets sectors of this slot: an available cell of a block that has another one, or parity
pub record IsSetOn (volume : Volume) (slot : ℕ) : Type 0 where
  pub lba : ℕ
  pub is_set : IsCopied volume slot lba ⊎ IsParityCell volume slot lba

-- why an array isn't resynced: it isn't within its level, or an element that keeps parity lacks a position
abbrev pub resync_refusal : Volume → Option VolumeFault
resync_refusal volume = if not (is_within volume) then Some Lost else (if is_degraded volume then Some Unsure else None)

-- no source is left at a slot of a block that has several available cells
pub record NoneLeftOfBlock (failed : ℕ → Type 0) (volume : Volume) (slot : ℕ) : Type 0 where
  pub block : ℕ
  pub below : block < capacity volume
  pub several : has_other volume block ≡ true
  pub none_left : NoneLeft failed (sources volume block) slot

-- nor one of a data cell of a row whose parity is set
pub record NoneLeftOfRow (failed : ℕ → Type 0) (volume : Volume) (slot : ℕ) : Type 0 where
  pub element : ℕ
  pub part : Part
  pub is_part : slice_get volume.parts element ≡ Some part
  pub sector : ℕ
  pub count : ℕ
  pub keeps : keeps_parity part.shape.layout ≡ true
  pub inside : sector + count ≤ depth_of part.shape
  pub for_sum : NoneLeftForSum failed volume element part sector count slot

-- no source is left at a slot of what a resync reads
abbrev pub IsUnread : (failed : ℕ → Type 0) → Volume → (slot : ℕ) → Type 0
IsUnread failed volume slot = NoneLeftOfBlock failed volume slot ⊎ NoneLeftOfRow failed volume slot

-- the calls ended at a slot: a write or sync of it failed, and the resync sets sectors of it; or no source is left there
abbrev pub IsStopped : {D : Type 0} (old new : BayState D) → Volume → (slot : ℕ) → Type 0
IsStopped old new volume slot =
    (IsSetOn volume slot × Rose (old.failed_writes slot) (new.failed_writes slot)) ⊎ (NoneLeftOfBlock (Failed old new) volume slot ⊎ NoneLeftOfRow (Failed old new) volume slot)

-- no call is made, and nothing changes
abbrev pub IsUntouched : {D : Type 0} (old new : BayState D) → Type 0
IsUntouched old new = ReadsOnly old new × (new.calls ≡ old.calls)

-- The cause of an answer other than Ok. Where the array is refused nothing is done.
abbrev pub IsRefused : {D : Type 0} (old new : BayState D) → Volume → VolumeFault → Type 0
IsRefused old new volume fault = (resync_refusal volume ≡ Some fault) × IsUntouched old new

abbrev pub IsResyncFault : {D : Type 0} → (old new : BayState D) → Volume → VolumeFault → Type 0
IsResyncFault old new volume (Range most) = ⊥
IsResyncFault old new volume Degraded = ⊥
IsResyncFault old new volume Lost = IsRefused old new volume Lost
IsResyncFault old new volume Unsure = IsRefused old new volume Unsure
IsResyncFault old new volume (Disk slot) = (resync_refusal volume ≡ None) × IsStopped old new volume slot

-- The cause of an answer other than Ok of a look at what a resync reads.
abbrev pub IsNeedsFault : {D : Type 0} → (old new : BayState D) → Volume → VolumeFault → Type 0
IsNeedsFault old new volume (Range most) = ⊥
IsNeedsFault old new volume Degraded = ⊥
IsNeedsFault old new volume Lost = IsRefused old new volume Lost
IsNeedsFault old new volume Unsure = IsRefused old new volume Unsure
IsNeedsFault old new volume (Disk slot) = (resync_refusal volume ≡ None) × IsUnread (Failed old new) volume slot
