-- What a scrub finds (profile).
use Rattle.std.specs.Prelude.{◌≡◌, ℕ, ◌*◌, ◌+◌, ◌<◌, ◌≤◌, false, true, Option, Some, None, slice_get}
use Rattle.ddf_bay.specs.Sectors.{Image}
use Rattle.ddf_bay.specs.State.{BayState}
use Rattle.ddf_primary.specs.Cells.{depth_of, height_of}
use Rattle.ddf_array.specs.declared.part.Part.{Part}
use Rattle.ddf_array.specs.Redundant.{IsRedundant}
use Rattle.ddf_array.specs.Volume.{Volume}
use Rattle.ddf_array.specs.Within.{is_within}
use Rattle.ddf_read.specs.declared.fault.VolumeFault.{VolumeFault}
use Rattle.ddf_read.specs.declared.fault.VolumeFault.TheVariants.{Range, Degraded, Lost, Unsure, Disk}
use Rattle.ddf_resync.specs.declared.outcome.Scrub.{Scrub}
use Rattle.ddf_resync.specs.declared.outcome.Scrub.TheVariants.{Clean, Differs}
use Rattle.ddf_resync.specs.Agreeing.{Agrees}
use Rattle.ddf_resync.specs.Compared.{FailedOn}

-- an element agrees at every sector before one
abbrev pub AgreesBefore : Volume → Image → (element sector : ℕ) → Type 0
AgreesBefore volume image element sector =
    (part : Part) (s : ℕ) → slice_get volume.parts element ≡ Some part → s < sector → s < depth_of part.shape → Agrees volume image element part s

-- so do all elements before one
abbrev pub AgreeBefore : Volume → Image → (element : ℕ) → Type 0
AgreeBefore volume image element =
    (e s : ℕ) (part : Part) → e < element → slice_get volume.parts e ≡ Some part → s < depth_of part.shape → Agrees volume image e part s

-- a row of an element is the least that doesn't agree
pub record IsLeastDiffering (volume : Volume) (image : Image) (element row : ℕ) : Type 0 where
  pub part : Part
  pub is_part : slice_get volume.parts element ≡ Some part
  pub sector : ℕ
  pub from : row * height_of part.shape ≤ sector
  pub below : sector < row * height_of part.shape + height_of part.shape
  pub deep : sector < depth_of part.shape
  pub differs : Agrees volume image element part sector → ⊥
  pub rows_before : AgreesBefore volume image element (row * height_of part.shape)
  pub elements_before : AgreeBefore volume image element

-- what an answer says of an image
abbrev pub IsScrubbed : Volume → Image → Scrub → Type 0
IsScrubbed volume image Clean = IsRedundant volume image
IsScrubbed volume image (Differs element row) = (IsRedundant volume image → ⊥) × IsLeastDiffering volume image element row

-- each sector of the elements agrees
abbrev pub AgreesEverywhere : Volume → Image → Type 0
AgreesEverywhere volume image =
    (element sector : ℕ) (part : Part) → slice_get volume.parts element ≡ Some part → sector < depth_of part.shape → Agrees volume image element part sector

-- what an answer says whatever bytes the sectors have: so it is where nothing differs, and else the array isn't redundant
abbrev pub AgreesOrNot : Volume → Image → Scrub → Type 0
AgreesOrNot volume image Clean = AgreesEverywhere volume image
AgreesOrNot volume image (Differs element row) = IsRedundant volume image → ⊥

-- the cause of an answer other than Ok: a read failed of a slot with a sector that is compared
abbrev pub IsScrubFault : {D : Type 0} → (old new : BayState D) → Volume → VolumeFault → Type 0
IsScrubFault old new volume (Range most) = ⊥
IsScrubFault old new volume Degraded = ⊥
IsScrubFault old new volume Lost = is_within volume ≡ false
IsScrubFault old new volume Unsure = ⊥
IsScrubFault old new volume (Disk slot) = (is_within volume ≡ true) × FailedOn volume old new slot

-- a row is the first of an element that doesn't agree
pub record DiffersFirst (volume : Volume) (image : Image) (element : ℕ) (part : Part) (row : ℕ) : Type 0 where
  pub sector : ℕ
  pub from : row * height_of part.shape ≤ sector
  pub below : sector < row * height_of part.shape + height_of part.shape
  pub deep : sector < depth_of part.shape
  pub differs : Agrees volume image element part sector → ⊥
  pub rows_before : (s : ℕ) → s < row * height_of part.shape → Agrees volume image element part s

-- what is found of an element: all its rows agree, or the first that doesn't
abbrev pub IsElementScrubbed : Volume → Image → (element : ℕ) → Part → Option ℕ → Type 0
IsElementScrubbed volume image element part None = (s : ℕ) → s < depth_of part.shape → Agrees volume image element part s
IsElementScrubbed volume image element part (Some row) = DiffersFirst volume image element part row
