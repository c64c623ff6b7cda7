-- The sectors that a scrub compares (profile).
use Rattle.std.specs.Prelude.{◌≡◌, ◌⊎◌, ℕ, ◌<◌, ◌≤◌, true, List, Some, length, slice_get}
use Rattle.ddf_bay.specs.Sectors.{Image}
use Rattle.ddf_bay.specs.State.{BayState}
use Rattle.ddf_primary.specs.Cells.{depth_of}
use Rattle.ddf_array.specs.declared.part.Part.{Part}
use Rattle.ddf_array.specs.declared.site.Site.{Site}
use Rattle.ddf_array.specs.Levels.{keeps_parity}
use Rattle.ddf_array.specs.Sources.{Source, copy, row, every_source}
use Rattle.ddf_array.specs.Redundant.{IsRedundant, whole_row}
use Rattle.ddf_array.specs.Volume.{Volume}
use Rattle.ddf_array.specs.Within.{is_mirrored}
use Rattle.ddf_read.specs.Reading.{Failed, HasSite, HasSlot}

-- a row of a mirrored array, which is compared with the block's value
abbrev pub IsMirroredRow : Volume → Source → Type 0
IsMirroredRow volume (copy site) = ⊥
IsMirroredRow volume (row sites) = is_mirrored volume ≡ true

-- a slot has a sector of a block's source, and the block has another source, or it is such a row
pub record IsOfSource (volume : Volume) (slot : ℕ) : Type 0 where
  pub block : ℕ
  pub number : ℕ
  pub source : Source
  pub is_source : slice_get (every_source volume block) number ≡ Some source
  pub is_compared : (2 ≤ length (every_source volume block)) ⊎ IsMirroredRow volume source
  pub is_on : HasSlot (λ other. other ≡ slot) source

-- it has one of a row of an element that keeps parity, where that is all available
pub record IsOfRow (volume : Volume) (slot : ℕ) : Type 0 where
  pub element : ℕ
  pub part : Part
  pub is_part : slice_get volume.parts element ≡ Some part
  pub keeps : keeps_parity part.shape.layout ≡ true
  pub sector : ℕ
  pub deep : sector < depth_of part.shape
  pub sites : List Site
  pub is_whole : whole_row part sector ≡ Some sites
  pub is_on : HasSite (λ other. other ≡ slot) sites

-- a slot has a sector that is compared
abbrev pub IsCompared : Volume → ℕ → Type 0
IsCompared volume slot = IsOfSource volume slot ⊎ IsOfRow volume slot

-- a read failed on such a slot
abbrev pub FailedOn : {D : Type 0} → Volume → (old new : BayState D) → ℕ → Type 0
FailedOn volume old new slot = IsCompared volume slot × Failed old new slot

-- the array isn't redundant, or such a read failed
abbrev pub HasDiffered : {D : Type 0} → Volume → Image → (old new : BayState D) → Type 0
HasDiffered volume image old new = IsRedundant volume image → (slot : ℕ) × FailedOn volume old new slot
