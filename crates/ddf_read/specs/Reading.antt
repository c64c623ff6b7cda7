-- What a read gives that goes from source to source, where reads may fail (profile).
use Rattle.std.specs.Prelude.{◌≡◌, ◌⊎◌, ℕ, ◌≤◌, true, List, [], ◌∷◌, Option, Some, None, Result, Ok, Err, slice_get}
use Rattle.ddf_bytes.specs.Counts.{Rose}
use Rattle.ddf_bay.specs.Sectors.{Image}
use Rattle.ddf_bay.specs.State.{BayState}
use Rattle.ddf_bay.specs.ReadsOnly.{ReadsOnly}
use Rattle.ddf_array.specs.declared.part.Part.{Part}
use Rattle.ddf_array.specs.declared.place.Place.{Place}
use Rattle.ddf_array.specs.declared.site.Site.{Site}
use Rattle.ddf_array.specs.Sources.{Source, copy, row}
use Rattle.ddf_array.specs.Values.{given}
use Rattle.ddf_array.specs.Volume.{Volume}

-- one of these sectors is on a slot of this kind
abbrev pub HasSite : (ℕ → Type 0) → List Site → Type 0
HasSite P [] = ⊥
HasSite P (site ∷ sites) = P site.slot ⊎ HasSite P sites

-- a source has a sector on a slot of this kind
abbrev pub HasSlot : (ℕ → Type 0) → Source → Type 0
HasSlot P (copy site) = P site.slot
HasSlot P (row sites) = HasSite P sites

-- the first source has
abbrev pub FirstHasSlot : (ℕ → Type 0) → List Source → Type 0
FirstHasSlot P [] = ⊥
FirstHasSlot P (source ∷ sources) = HasSlot P source

-- every source has
abbrev pub AllHaveSlot : (ℕ → Type 0) → List Source → Type 0
AllHaveSlot P [] = Unit {0}
AllHaveSlot P (source ∷ sources) = HasSlot P source × AllHaveSlot P sources

-- the bytes of the first source that was read, behind others with a slot of which a read failed
abbrev pub IsGivenBy : (failed : ℕ → Type 0) → Image → List Source → List ℕ → Type 0
IsGivenBy failed image [] bytes = ⊥
IsGivenBy failed image (source ∷ sources) bytes =
    (bytes ≡ given image source) ⊎ (HasSlot failed source × IsGivenBy failed image sources bytes)

-- no source is left at a slot: every source has a slot of which a read failed, and this is such a slot of the first
pub record NoneLeft (failed : ℕ → Type 0) (sources : List Source) (slot : ℕ) : Type 0 where
  pub all_failed : AllHaveSlot failed sources
  pub this_failed : failed slot
  pub is_of_first : FirstHasSlot (λ other. other ≡ slot) sources

-- none of these sources was read: there is none, or none is left at a slot of the first
abbrev pub NotRead : (failed : ℕ → Type 0) → List Source → Option ℕ → Type 0
NotRead failed sources None = sources ≡ []
NotRead failed sources (Some slot) = NoneLeft failed sources slot

-- what came of trying sources in order: the bytes of one, where the bay tells what it holds, or nothing
abbrev pub Tried : (tells : Type 0) → (failed : ℕ → Type 0) → Image → List Source → Result Unit (Option ℕ) → List ℕ → Type 0
Tried tells failed image sources (Ok done) bytes = tells → IsGivenBy failed image sources bytes
Tried tells failed image sources (Err first) bytes = NotRead failed sources first

-- a read of the slot failed
abbrev pub Failed : {D : Type 0} (old new : BayState D) → (slot : ℕ) → Type 0
Failed old new slot = Rose (old.failed_reads slot) (new.failed_reads slot)

-- an available place of the array is on this slot
pub record IsOn (volume : Volume) (slot : ℕ) : Type 0 where
  pub element : ℕ
  pub position : ℕ
  pub part : Part
  pub place : Place
  pub is_part : slice_get volume.parts element ≡ Some part
  pub is_place : slice_get part.places position ≡ Some place
  pub is_synced : place.synced ≡ true
  pub is_there : place.slot ≡ Some slot

-- no read failed on a slot of the array's available places
abbrev pub NoneFailed : {D : Type 0} → Volume → (old new : BayState D) → Type 0
NoneFailed volume old new = (slot : ℕ) → IsOn volume slot → Failed old new slot → ⊥

-- only reads were made
pub record OnlyReads {D : Type 0} (old new : BayState D) : Type 0 where
  pub reads : ReadsOnly old new
  pub never_falls : (slot : ℕ) → old.failed_reads slot ≤ new.failed_reads slot
  pub same_writes : new.failed_writes ≡ old.failed_writes
